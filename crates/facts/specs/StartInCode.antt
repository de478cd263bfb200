-- The fact of all starts as it is kept in code, with one link or both and with fewer words of one name, and what it means.
use Rattle.std.specs.Prelude.{[]}
use Rattle.wordset.specs.Lanes.{words}
use Rattle.wordset.specs.Links.{links_of}
use Rattle.peripherals.specs.Loading.{image_of}
use Rattle.domain.specs.LocationsInCode.{location_of}
use Rattle.domain.specs.Facts as said
use Rattle.domain.specs.Adding.{with_set}
use Rattle.domain.specs.Brief.{brief_words}
use Rattle.domain.specs.Offsets.{offsets_in}
use Rattle.facts.specs.Starts.{words_at_start, start_fact}
use Rattle.facts.specs.declared.start_fact.StartFact.{StartFact}
use Rattle.facts.specs.declared.starts.StartPart.{StartPart}

-- The fact that is meant: the name has the words that are kept, and every other name those of a start.
abbrev pub start_in_code : StartFact → said.Fact
start_in_code s = record {
  set = with_set (location_of s.name) (words s.set) (words_at_start (image_of s.image.now));
  relations = [];
  chains = [];
  mq = words s.every;
  link = links_of s.links;
  sites = brief_words s.none;
  offsets = offsets_in s.offsets;
}

-- The fact that is meant as a part: that of all starts, with these links.
abbrev pub start_part_in_code : StartPart → said.Fact
start_part_in_code s = record (start_fact (image_of s.image.now)) { link = links_of s.links }
