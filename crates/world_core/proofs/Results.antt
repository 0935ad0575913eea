-- What a call returned, passed on by its caller.
use Rattle.std.proofs.Common.{◌≡◌, ◌↔◌, Result, Ok, Err, IfErr, OnOk, ap, sym, subst}
use Rattle.std.specs.Prelude.{IfOk, IsErrAnd}

module _ {T E : Type 0} where
  pub if_err : (r : Result T E) (P Q : E → Type 0) → IsErrAnd r P → ((e : E) → P e → Q e) → IfErr r Q
  if_err (Ok v) P Q is give = absurd is
  if_err (Err e) P Q is give = give e is

  -- the call returned exactly this error
  pub if_err_is : (r : Result T E) (x : E) (Q : E → Type 0) → IsErrAnd r (λ e. e ≡ x) → Q x → IfErr r Q
  if_err_is (Ok v) x Q is one = absurd is
  if_err_is (Err e) x Q is one = subst Q (sym is) one

  pub on_ok_map : (r : Result T E) (A B : Type 0) → OnOk r A → (A → B) → OnOk r B
  on_ok_map (Ok v) A B is give = give is
  on_ok_map (Err e) A B is give = tt

  pub if_ok_map : (r : Result T E) (P Q : T → Type 0) → IfOk r P → ((v : T) → P v → Q v) → IfOk r Q
  if_ok_map (Ok v) P Q is give = give v is
  if_ok_map (Err e) P Q is give = tt

  pub if_err_map : (r : Result T E) (P Q : E → Type 0) → IfErr r P → ((e : E) → P e → Q e) → IfErr r Q
  if_err_map (Ok v) P Q is give = tt
  if_err_map (Err e) P Q is give = give e is

-- an equivalence about the call's error holds of the caller's; and if the call returned Ok, the condition is false
pub at_err : {T E : Type 0} {x e : E} {Q : Type 0} → ◌≡◌ {A = Result T E} (Err x) (Err e) ↔ Q → (x ≡ e) ↔ Q
at_err outputs = ((λ same. outputs.0 (ap Err same)), λ q. let is = outputs.1 q in cc)

pub at_ok : {T E : Type 0} {v : T} {e : E} {Q : Type 0} → ◌≡◌ {A = Result T E} (Ok v) (Err e) ↔ Q → Q → ⊥
at_ok outputs q = let never = outputs.1 q in cc
