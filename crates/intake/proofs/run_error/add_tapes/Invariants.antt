use Rattle.std.specs.Prelude.{◌≡◌, false}
use Rattle.intake.specs.Errors.{with_first}
use Rattle.intake.proofs.run_error.add_tapes.Given as goal

-- those so far are added
abbrev pub invariant-loop-error : goal.invariant-loop-error
invariant-loop-error l = record {
  can_next : goal.iterator-loop-error.can_next l.error-iterator;
  finite : goal.iterator-loop-error.is_finite l.error-iterator;
  files : l.end.files ≡ l.initial.end.files;
  owing : l.end.owing ≡ l.initial.end.owing;
  tapes : l.end.lacks_resources ≡ false → (l.initial.end.lacks_resources ≡ false)
      × (with_first l.end.tapes.items l.error-iterator.rest.items
      ≡ with_first l.initial.end.tapes.items l.fn.errors.items);
}
