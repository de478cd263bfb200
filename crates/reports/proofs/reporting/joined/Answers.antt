use Rattle.std.proofs.Common.{◌∙◌, ap, append_assoc}
use Rattle.std.specs.Prelude.{◌++◌}
use Rattle.reports.proofs.reporting.joined.Goals as goal

pub returns : goal.returns
returns g c =
    let head = c.push_head.new.page.items in
    let line = c.args.line.now in
    let opened = c.opening.result.now in
    let rest = c.args.rest.now in
    record {
      before = head;
      rest = opened ++ rest;
      page_is =
          c.in_ok-extend_from_slice-3.ensures.items
          ∙ ap (λ xs. xs ++ rest) (c.in_ok-extend_from_slice-2.ensures.items ∙ ap (λ xs. xs ++ opened) c.in_ok-extend_from_slice.ensures.items)
          ∙ append_assoc (head ++ line) opened rest
          ∙ append_assoc head line (opened ++ rest);
    }
