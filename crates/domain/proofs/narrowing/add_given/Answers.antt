use Rattle.wordset.specs.Lanes.{words}
use Rattle.wordset.specs.Links.{links_of}
use Rattle.domain.specs.ChainsInCode.{chain_of}
use Rattle.domain.specs.Given.{gives_allowed_from, gives_allowed}
use Rattle.domain.proofs.GivenLemmas.{adds_both, from_either}
use Rattle.domain.proofs.narrowing.add_given.Goals as goal

pub returns : goal.returns
returns c = adds_both (gives_allowed_from (words c.args.ac.now) (links_of c.args.links) (chain_of c.args.chain.now) 0 c.args.word)
    (gives_allowed_from (words c.args.ac.now) (links_of c.args.links) (chain_of c.args.chain.now) 1 c.args.word)
    (gives_allowed (words c.args.ac.now) (links_of c.args.links) (chain_of c.args.chain.now) c.args.word) c.args.word c.args.found.now c.add_given_from.new.found c.add_given_from-2.new.found
    (λ w l. from_either (words c.args.ac.now) (links_of c.args.links) (chain_of c.args.chain.now) c.args.word w l) c.add_given_from.ensures c.add_given_from-2.ensures
