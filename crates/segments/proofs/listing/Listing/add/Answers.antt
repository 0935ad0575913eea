-- What the name reads as, and what the call beneath made of it.
use Rattle.std.proofs.Common.{Ok, ap, ◌∙◌}
use Rattle.segments.proofs.listing.Listing.add.Goals as goal

pub put-requires : goal.put-requires
put-requires c =
    let read = c.in-Ok-Some.is ∙ ap (λ o. Ok o) c.in-Ok-Some.field-0-is in
    ((c.read_name.ensures.ok c.in-Ok-Some.first).0 read).from_one

pub returns-in-Ok-clause-ok : goal.returns-in-Ok-clause-ok
returns-in-Ok-clause-ok c e = (
  c.in-Ok-Some.first,
  (c.read_name.ensures.ok c.in-Ok-Some.first).0 (c.in-Ok-Some.is ∙ ap (λ o. Ok o) c.in-Ok-Some.field-0-is),
  c.in-Ok.ensures.ok,
)

pub returns-in-Err-put-clause-no_memory : goal.returns-in-Err-put-clause-no_memory
returns-in-Err-put-clause-no_memory c e = (
  c.in-Ok-Some.first,
  (c.read_name.ensures.ok c.in-Ok-Some.first).0 (c.in-Ok-Some.is ∙ ap (λ o. Ok o) c.in-Ok-Some.field-0-is),
)
