-- Sets of links and of carries as tests on 0 and 1.
use Rattle.std.specs.Prelude.{false, ◌==◌, if◌then◌else◌}
use Rattle.wordset.specs.Words.{Words}
use Rattle.wordset.specs.declared.links.Links.{Links}
use Rattle.wordset.specs.declared.links.Carries.{Carries}

-- The links of the set. A number from 2 on is no link.
abbrev pub links_of : Links → Words
links_of set k = if k == 0 then set.clear else (if k == 1 then set.set else false)

-- The carries of the set: 0 stands for none and 1 for one, and a number from 2 on is no carry.
abbrev pub carries_of : Carries → Words
carries_of set k = if k == 0 then set.absent else (if k == 1 then set.present else false)
