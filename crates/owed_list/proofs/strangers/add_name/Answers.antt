use Rattle.std.proofs.Common.{ℕ, List, inl, inr, sym, subst, ◌∙◌}
use Rattle.std.specs.Prelude.{Contains}
use Rattle.owed_list.proofs.Sets.{Octets, gains_key, keeps_key, texts}
use Rattle.owed_list.proofs.strangers.add_name.Goals as goal

pub returns : goal.returns
returns c = λ other.
    let key = c.in_ok-from_slice.field-0 in
    let is = c.in_ok-from_slice.ensures.items in
    let old = c.args.names.now.keys in
    let keys = c.in_ok-insert.ensures.keys in (
      λ h. elim (gains_key key old other (subst (λ (ks : List Octets). Contains (texts ks) other) keys h)) [
        | inl there ↦ inl there
        | inr same ↦ inr (sym is ∙ same)
      ],
      λ h. subst (λ (ks : List Octets). Contains (texts ks) other) (sym keys) (keeps_key key old other (elim h [
        | inl there ↦ inl there
        | inr same ↦ inr (is ∙ same)
      ])),
    )
