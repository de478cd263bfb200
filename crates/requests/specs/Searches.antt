-- What a search for a certificate comes to.
use Rattle.std.specs.Prelude.{Option, Some, None}
use Rattle.instruct.specs.declared.Profile.{Profile}
use Rattle.certificate_lines.specs.declared.Version.{Version}
use Rattle.analyser.specs.Attempts.{HasVersion, HasVersionFor}
use Rattle.analyser.specs.declared.Attempt.{Attempt}

-- The version of what a search comes to, for this machine. If a version is requested, a certificate that is found is of
-- that version; if none is, it is of the version of the machine or of version 3.
abbrev pub HasRequestedVersion : {A : Type 0} → Profile → Option Version → Attempt A → Type 0
HasRequestedVersion profile None attempt = HasVersionFor profile attempt
HasRequestedVersion profile (Some version) attempt = HasVersion profile version attempt
