-- Parts of facts as they are kept in code, and what they mean.
use Rattle.domain.specs.Facts as said
use Rattle.domain.specs.FactInCode.{fact_in_code}
use Rattle.facts.specs.declared.fact_parts.LinkPart.{LinkPart}

-- The fact of one link that is meant.
abbrev pub part_in_code : LinkPart → said.Fact
part_in_code p = fact_in_code p.part
