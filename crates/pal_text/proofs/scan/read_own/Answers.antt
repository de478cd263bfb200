use Rattle.std.proofs.Common.{◌∙◌, sym}
use Rattle.std.specs.Prelude.{reverse}
use Rattle.std.proofs.lemmas.List.{reverse-reverse}
use Rattle.pal_text.proofs.Fronts.{grown_outside, reading_nothing, reading_feed, reading_one, reading_front, stop_end, stop_feed, comment_front, comment_unreturned, own_comment}
use Rattle.pal_text.proofs.Grows.{anyway}
use Rattle.pal_text.proofs.Spaces.{token_refused}
use Rattle.pal_text.proofs.scan.read_own.Goals as goal

pub loop-at-preserved-in-Nothing : goal.loop-at-preserved-in-Nothing
loop-at-preserved-in-Nothing g c =
    reading_nothing c.args.source.now c.args.place.now c.loop-at.at c.loop-at.returned c.loop-at.out.items c.loop-at-test.true (sym c.effect_of_code.ensures ∙ c.in-Nothing.is) c.loop-at.invariant

pub returns-then-not-returned-clause-stop : goal.returns-then-not-returned-clause-stop
returns-then-not-returned-clause-stop g c =
    stop_feed c.args.source.now c.args.place.now c.loop-at.at c.loop-at.returned c.loop-at.out.items (sym c.effect_of_code.ensures ∙ c.in-Feed.is) c.if-not-returned.true c.loop-at.invariant

pub loop-at-preserved-in-Feed : goal.loop-at-preserved-in-Feed
loop-at-preserved-in-Feed g c =
    reading_feed c.args.source.now c.args.place.now c.loop-at.at c.loop-at.returned c.loop-at.out.items c.loop-at-test.true (sym c.effect_of_code.ensures ∙ c.in-Feed.is) c.if-not-returned.false c.loop-at.invariant

pub returns-in-End-clause-stop : goal.returns-in-End-clause-stop
returns-in-End-clause-stop g c =
    stop_end c.args.source.now c.args.place.now c.loop-at.at c.loop-at.returned c.loop-at.out.items (sym c.effect_of_code.ensures ∙ c.in-End.is) c.loop-at.invariant

pub loop-at-preserved : goal.loop-at-preserved
loop-at-preserved g c =
    reading_one c.args.source.now c.args.place.now c.loop-at.at c.finish_run-at.result c.loop-at.returned c.loop-at.out.items c.add.new.out.items c.finish_run-at.new.out.items c.in-One.kind c.requires.place c.loop-at-test.true (sym c.effect_of_code.ensures ∙ c.in-One.is) c.loop-at.invariant
    (c.in_ok-add-in-One.ensures.added (reverse c.loop-at.out.items) (sym (reverse-reverse c.loop-at.out.items))) c.finish_run-at.ensures

pub returns-in_err-add-in-One-clause-refused : goal.returns-in_err-add-in-One-clause-refused
returns-in_err-add-in-One-clause-refused g c =
    anyway c.from_residual.result (token_refused c.args.source.now c.args.place.now c.loop-at.at c.loop-at.returned c.loop-at.out.items c.in-One.kind c.requires.place c.loop-at-test.true (sym c.effect_of_code.ensures ∙ c.in-One.is) c.loop-at.invariant
    c.in_err-add-in-One.ensures.refused)

pub loop-at-init : goal.loop-at-init
loop-at-init g c = reading_front c.args.source.now c.args.place.now c.args.out.now.items c.requires.place c.requires.empty

pub comment_end-requires-clause-comment : goal.comment_end-requires-clause-comment
comment_end-requires-clause-comment g c = comment_front c.args.source.now c.loop-at.at c.loop-at-test.true c.loop-at.invariant.2 (sym c.effect_of_code.ensures ∙ c.in-Comment.is)

pub comment_end-requires-clause-returned : goal.comment_end-requires-clause-returned
comment_end-requires-clause-returned g c = comment_unreturned c.args.source.now c.loop-at.at c.loop-at-test.true c.loop-at.invariant.2 (sym c.effect_of_code.ensures ∙ c.in-Comment.is)

pub returns-in-Comment-clause-own : goal.returns-in-Comment-clause-own
returns-in-Comment-clause-own g c =
    own_comment c.args.source.now c.args.place.now c.loop-at.at c.comment_end.result c.loop-at.returned c.loop-at.out.items c.loop-at-test.true (sym c.effect_of_code.ensures ∙ c.in-Comment.is) c.loop-at.invariant c.comment_end.ensures.quiet

pub finish_run-at-requires : goal.finish_run-at-requires
finish_run-at-requires g c = grown_outside c.args.source.now c.loop-at.at c.in-One.kind c.loop-at-test.true c.loop-at.invariant.2 (sym c.effect_of_code.ensures ∙ c.in-One.is)
