use Rattle.std.proofs.Common.{◌∙◌, ◌+◌, sym, take, get_or}
use Rattle.pal_text.specs.Characters.{characters, code}
use Rattle.pal_text.proofs.NamesLemmas.{six_same, six_put, six_past, six_at, characters_more, characters_same}
use Rattle.pal_text.proofs.names.Name.new.Goals.{then-count-lt6+then-is_character_code, else-count-lt6, else-count-lt6-via-then-count-lt6+else-is_character_code, else-count-lt6-via-else-count-lt6}
use Rattle.pal_text.proofs.names.Name.new.Goals as goal

pub loop-byte-preserved : goal.loop-byte-preserved
loop-byte-preserved c = elim c.if-count-lt6.branch [
  | then-count-lt6+then-is_character_code w ↦ six_at (characters (take (c.loop-byte.byte-index + 1) c.args.bytes.now)) _ c.if-count-lt6.letters _ c.if-count-lt6.count w.letters-is w.count-is
      (six_put (characters (take c.loop-byte.byte-index c.args.bytes.now)) _ c.loop-byte.letters (code (get_or c.args.bytes.now c.loop-byte.byte-index 0)) c.loop-byte.count
      (characters_more c.args.bytes.now c.loop-byte.byte-index c.loop-byte-test.true (sym w.is_character_code.ensures ∙ w.if-is_character_code.true)) w.if-count-lt6.true c.loop-byte.invariant)
  | else-count-lt6 w ↦ six_at (characters (take (c.loop-byte.byte-index + 1) c.args.bytes.now)) _ c.if-count-lt6.letters _ c.if-count-lt6.count w.letters-is w.count-is
      (elim w.else-count-lt6.branch [
        | else-count-lt6-via-then-count-lt6+else-is_character_code v ↦ six_same (characters (take c.loop-byte.byte-index c.args.bytes.now)) _ c.loop-byte.letters c.loop-byte.count
            (characters_same c.args.bytes.now c.loop-byte.byte-index c.loop-byte-test.true (sym v.is_character_code.ensures ∙ v.if-is_character_code.false)) c.loop-byte.invariant
        | else-count-lt6-via-else-count-lt6 v ↦ six_past c.args.bytes.now c.loop-byte.byte-index c.loop-byte.letters c.loop-byte.count c.loop-byte-test.true v.if-count-lt6.false c.loop-byte.invariant
      ])
]
