-- The token is no longer kept for its message-id, and what is kept for another stays.
use Rattle.std.proofs.Common.{◌≡◌, ℕ, List, Some, None, true, false, filter, not, refl, sym, ap, ◌∙◌, subst}
use Rattle.std.proofs.lemmas.Bool.{false≢true}
use Rattle.std.specs.BTreeMap.{get_by}
use Rattle.std.specs.Cmp.Lexicographic.{slice_cmp}
use Rattle.std.specs.Option.{option_copied}
use Rattle.std.specs.Ordering.{nat_cmp}
use Rattle.std.specs.Vec.{vec_items}
use Rattle.rnews.specs.Waits.{IsKeptFor, StandsFor, Wait, is_for, kept_at, tokens_for}
use Rattle.rnews.specs.declared.waiting.Tokens.TheVariants.{One, Several}
use Rattle.rnews.specs.declared.waiting.Waiting.{Waiting}
use Rattle.rnews.proofs.Keys.{lookup-other}
use Rattle.rnews.proofs.Waits.{Same, same, differ, compare, is_one, tokens_for-kept, tokens_for-taken}
use Rattle.rnews.proofs.waiting.Waiting.take.Goals as goal

pub returns-in-Some-One-remove : goal.returns-in-Some-One-remove
returns-in-Some-One-remove c = λ waits stands.
    let id = c.args.id.now in
    let old = c.args.self.now in
    let new : Waiting = record { alloc = c.args.self.now.alloc; by_id = c.remove.new.self } in
    let left = filter {X = Wait} (λ wait. not (is_for id wait)) waits in
    let u = c.remove.ensures.updates in
    let key : c.bytes-2.result.now ≡ id = c.bytes-2.ensures.value in
    let was : c.remove.result ≡ kept_at old id =
    subst (λ octets. c.remove.result ≡ get_by (λ k. slice_cmp nat_cmp octets
    (vec_items k)) old.by_id) key c.remove.ensures.value in
    let gone : kept_at new id ≡ None =
    subst (λ octets. get_by (λ k. slice_cmp nat_cmp octets (vec_items k)) c.remove.new.self ≡ None) key u.1 in
    let one : kept_at old id ≡ Some (One c.in-Some-One-remove.token) =
    sym was ∙ (c.in-Some-One-remove.is ∙ ap Some c.in-Some-One-remove.field-0-is) in (
      subst (λ o. IsKeptFor o (tokens_for id waits)) one (stands.kept id),
      record {
        kept = λ other.
            elim (compare other id) as (λ _. IsKeptFor (kept_at new other) (tokens_for other left)) [
              | same e ↦ subst (λ o. IsKeptFor (kept_at new o) (tokens_for o left)) (sym e) (rw gone
                  (tokens_for-taken id waits))
              | differ apart unlike ↦ rw (
                lookup-other vec_items c.bytes-2.result.now other old.by_id.entries c.remove.new.self.entries u.3
                    (λ e. apart (e ∙ key)),
                tokens_for-kept id other waits apart,
              ) (stands.kept other)
            ];
      },
    )

pub returns-in-Some-Several : goal.returns-in-Some-Several
returns-in-Some-Several c = λ waits stands.
    let id = c.args.id.now in
    let old = c.args.self.now in
    let was : c.remove.result ≡ kept_at old id =
    subst (λ octets. c.remove.result ≡ get_by (λ k. slice_cmp nat_cmp octets
    (vec_items k)) old.by_id) c.bytes-2.ensures.value c.remove.ensures.value in
    let got : option_copied c.get.result ≡ kept_at old id =
    subst (λ octets. option_copied c.get.result ≡ get_by (λ k. slice_cmp nat_cmp octets
    (vec_items k)) old.by_id) c.bytes.ensures.value c.get.ensures.value in
    let one = sym got ∙ (ap option_copied c.in-Some-One.is ∙ ap Some c.in-Some-One.field-0-is) in
    let several = sym was ∙ (c.in-Some-Several.is ∙ ap Some c.in-Some-Several.field-0-is) in
    absurd (false≢true (ap is_one (sym several ∙ one)))
