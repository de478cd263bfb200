-- The permanent symbols of both profiles.
use Prim.Native.String.{String}
use Rattle.std.specs.Prelude.{ℕ, ◌%◌, List, [], ◌∷◌, ◌++◌, codes}
use Rattle.word12.specs.Octal.{octal_value}
use Rattle.instruct.specs.declared.Profile.{Profile}
use Rattle.instruct.specs.declared.Profile.TheVariants.{Pdp8I, Pdp8E}
use Rattle.pal_text.specs.declared.names.Name.{Name}
use Rattle.pal_acts.specs.Words.{named}

-- A symbol by its six characters, and its value in octal digits.
abbrev pub symbol : String → String → Name × ℕ
symbol characters value = (named (codes characters), octal_value (codes value))

-- The permanent symbols of the PDP-8/I: the operations that take an address, I and Z; the operate instructions and
-- their usual combinations; ION and IOF; and the words of the reader, the punch, the keyboard and the printer.
unfoldable pub common_symbols : List (Name × ℕ)
common_symbols =
    symbol "AND   " "0000" ∷ symbol "TAD   " "1000" ∷ symbol "ISZ   " "2000" ∷ symbol "DCA   " "3000"
    ∷ symbol "JMS   " "4000" ∷ symbol "JMP   " "5000" ∷ symbol "I     " "0400" ∷ symbol "Z     " "0000"
    ∷ symbol "NOP   " "7000" ∷ symbol "CLA   " "7200" ∷ symbol "CLL   " "7100" ∷ symbol "CMA   " "7040"
    ∷ symbol "CML   " "7020" ∷ symbol "RAR   " "7010" ∷ symbol "RTR   " "7012" ∷ symbol "RAL   " "7004"
    ∷ symbol "RTL   " "7006" ∷ symbol "IAC   " "7001" ∷ symbol "SMA   " "7500" ∷ symbol "SZA   " "7440"
    ∷ symbol "SPA   " "7510" ∷ symbol "SNA   " "7450" ∷ symbol "SNL   " "7420" ∷ symbol "SZL   " "7430"
    ∷ symbol "SKP   " "7410" ∷ symbol "OSR   " "7404" ∷ symbol "HLT   " "7402" ∷ symbol "CIA   " "7041"
    ∷ symbol "LAS   " "7604" ∷ symbol "STL   " "7120" ∷ symbol "STA   " "7240" ∷ symbol "GLK   " "7204"
    ∷ symbol "ION   " "6001" ∷ symbol "IOF   " "6002" ∷ symbol "RSF   " "6011" ∷ symbol "RRB   " "6012"
    ∷ symbol "RFC   " "6014" ∷ symbol "PSF   " "6021" ∷ symbol "PCF   " "6022" ∷ symbol "PPC   " "6024"
    ∷ symbol "PLS   " "6026" ∷ symbol "KSF   " "6031" ∷ symbol "KCC   " "6032" ∷ symbol "KRS   " "6034"
    ∷ symbol "KRB   " "6036" ∷ symbol "TSF   " "6041" ∷ symbol "TCF   " "6042" ∷ symbol "TPC   " "6044"
    ∷ symbol "TLS   " "6046" ∷ []

-- The permanent symbols that the PDP-8/E has beside those of the PDP-8/I: the words of MQ, BSW, KCF and TFL.
unfoldable pub further_symbols : List (Name × ℕ)
further_symbols =
    symbol "MQL   " "7421" ∷ symbol "MQA   " "7501" ∷ symbol "SWP   " "7521" ∷ symbol "CAM   " "7621"
    ∷ symbol "BSW   " "7002" ∷ symbol "KCF   " "6030" ∷ symbol "TFL   " "6040" ∷ []

-- The permanent symbols of a machine with their values: those of the PDP-8/I, and on the PDP-8/E the further ones after
-- them.
unfoldable pub permanent_symbols : Profile → List (Name × ℕ)
permanent_symbols Pdp8I = common_symbols
permanent_symbols Pdp8E = common_symbols ++ further_symbols

-- A symbol as the code lists it, with its value as a word.
abbrev pub listed : List ℕ × ℕ → Name × ℕ
listed s = (named s.0, s.1 % 4096)
