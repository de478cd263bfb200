use Rattle.std.proofs.Common.{◌∙◌, ap, append_assoc}
use Rattle.std.specs.Prelude.{◌++◌, codes}
use Rattle.word12.specs.Words.{octal_text}
use Rattle.reports.proofs.drafting.joined.Goals as goal

pub returns : goal.returns
returns g c =
    let head = c.push_head.new.page.items in
    let stuck = codes "not known: stuck at " ++ octal_text c.args.at in
    let opened = c.stuck_opening.result.now in
    let rest = c.args.rest.now in
    record {
      before = head;
      rest = opened ++ rest;
      page_is =
          c.in_ok-extend_from_slice-3.ensures.items
          ∙ ap (λ xs. xs ++ rest) (c.in_ok-extend_from_slice-2.ensures.items
          ∙ ap (λ xs. xs ++ opened) (c.in_ok-extend_from_slice.ensures.items ∙ ap (λ xs. xs ++ codes "\n") c.in_ok-push_place.ensures))
          ∙ append_assoc ((head ++ stuck) ++ codes "\n") opened rest
          ∙ ap (λ xs. xs ++ (opened ++ rest)) (append_assoc head stuck (codes "\n"))
          ∙ append_assoc head (stuck ++ codes "\n") (opened ++ rest);
    }
