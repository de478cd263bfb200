use Rattle.streams.specs.TextLeft.{words_left}
use Rattle.labels.specs.Lines.{placed_words}
use Rattle.labels.proofs.Joins.{words_go_on}
use Rattle.labels.proofs.placing.place_words.Goals as goal

pub loop-word-preserved : goal.loop-word-preserved
loop-word-preserved g c =
    words_go_on c.args.own.now.entries c.args.number c.loop-word.out.items c.args.out.now.items c.in-Some.word.now (words_left c.loop-word.rest) (words_left c.next.new.self)
    (placed_words c.args.own.now.entries c.args.number (words_left c.args.words)) c.in-Some.ensures.steps c.loop-word.invariant
    c.extend_from_slice.new.self.items c.place_word.new.out.items c.in_ok-extend_from_slice.ensures.items c.in_ok-place_word.ensures.placed
