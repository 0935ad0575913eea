use Rattle.std.specs.Prelude.{◌≡◌, ◌++◌, false}
use Rattle.intake.proofs.run_error.add_files.Given as goal

-- those so far are added
abbrev pub invariant-loop-error : goal.invariant-loop-error
invariant-loop-error l = record {
  can_next : goal.iterator-loop-error.can_next l.error-iterator;
  finite : goal.iterator-loop-error.is_finite l.error-iterator;
  tapes : l.end.tapes ≡ l.initial.end.tapes;
  owing : l.end.owing ≡ l.initial.end.owing;
  files : l.end.lacks_resources ≡ false → (l.initial.end.lacks_resources ≡ false)
      × (l.end.files.items ++ l.error-iterator.rest.items ≡ l.initial.end.files.items ++ l.fn.errors.items);
}
