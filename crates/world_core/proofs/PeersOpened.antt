-- The openings of peers, one after another.
use Rattle.std.proofs.Common.{◌≡◌, ℕ, zero, suc, ◌<◌, ◌≤◌, Some, List, [], ◌∷◌, ◌++◌, length, take, drop, refl}
use Rattle.std.proofs.Common.{sym, ap, ◌∙◌, subst, arith, append_assoc, inl, inr}
use Rattle.std.proofs.Math.ListN.{set}
use Rattle.std.proofs.lemmas.Bool.{cases_lt}
use Rattle.std.proofs.lemmas.List.{take_at}
use Rattle.std.specs.List.{AllByRecursion, slice_get}
use Rattle.recovery.specs.Leaving.{EachLedger, pending_notes}
use Rattle.recovery.specs.LeavingLaws.{EachLedger-weaker}
use Rattle.recovery.specs.Notes.{History, recovered}
use Rattle.sections.specs.ListLaws.{all_at, all_set}
use Rattle.sections.specs.Tapes.{TapePast, mark_at, IsAbove}
use Rattle.world_core.specs.Past.{Past, PeerPast, with_peer}
use Rattle.world_core.specs.Safe.{HasAcknowledged, IsSafe, KeepsLines, KeepsNotes}
use Rattle.world_core.specs.Events.{Event, each_rank, opened_peer}
use Rattle.world_core.specs.Sound.{HasParted, IsSound}
use Rattle.world_core.proofs.SoundOverEvents.{names_set}

-- ---- lists

module _ {A : Type 0} where
  pub set_at : (prefix : List A) (x y : A) (behind : List A)
      → set (prefix ++ x ∷ behind) (length prefix) y ≡ (prefix ++ y ∷ []) ++ behind
  set_at [] x y behind = refl
  set_at (a ∷ prefix) x y behind = ap (λ (l : List A). a ∷ l) (set_at prefix x y behind)

  pub length_set : (xs : List A) (i : ℕ) (x : A) → length (set xs i x) ≡ length xs
  length_set [] i x = refl
  length_set (a ∷ xs) zero x = refl
  length_set (a ∷ xs) (suc i) x = ap (λ (n : ℕ). suc n) (length_set xs i x)

  pub get_at : (prefix : List A) (x : A) (behind : List A) → slice_get (prefix ++ x ∷ behind) (length prefix) ≡ Some x
  get_at [] x behind = refl
  get_at (a ∷ prefix) x behind = get_at prefix x behind

  pub length_push : (prefix : List A) (x : A) → length (prefix ++ x ∷ []) ≡ suc (length prefix)
  length_push [] x = refl
  length_push (a ∷ prefix) x = ap (λ (n : ℕ). suc n) (length_push prefix x)

  drop_taken : (n : ℕ) (xs : List A) → drop n (take n xs) ≡ []
  drop_taken zero xs = refl
  drop_taken (suc n) [] = refl
  drop_taken (suc n) (x ∷ xs) = drop_taken n xs

-- ---- the events at each rank

pub long : (event : ℕ → Event) (n : ℕ) → length (each_rank event n) ≡ n
long event zero = refl
long event (suc n) = length_push (each_rank event n) (event n) ∙ ap (λ (m : ℕ). suc m) (long event n)

-- those below a rank are a prefix of all
prefix_of : (event : ℕ → Event) (n k : ℕ) (behind : List Event) → k ≤ n
    → (rest : List Event) × (each_rank event n ++ behind ≡ each_rank event k ++ rest)
prefix_of event zero k behind within =
    let none : k ≡ 0 = omega (arith, within) in
    (behind, sym (ap (λ (m : ℕ). each_rank event m ++ behind) none))
prefix_of event (suc n) k behind within = elim (cases_lt n k) [
  | inl less ↦
      let all : k ≡ suc n = omega (arith, within, less) in
      (behind, sym (ap (λ (m : ℕ). each_rank event m ++ behind) all))
  | inr more ↦
      let first = prefix_of event n k (event n ∷ behind) more in
      (first.0, append_assoc (each_rank event n) (event n ∷ []) behind ∙ first.1)
]

pub take_places : (event : ℕ → Event) (n k : ℕ) (behind : List Event) → k ≤ n
    → take k (each_rank event n ++ behind) ≡ each_rank event k
take_places event n k behind within =
    let first = prefix_of event n k behind within in
    ap (λ (l : List Event). take k l) first.1 ∙ take_at (each_rank event k) first.0 k (long event k)

pub get_rank : (event : ℕ → Event) (n k : ℕ) (behind : List Event) → k < n
    → slice_get (each_rank event n ++ behind) k ≡ Some (event k)
get_rank event n k behind within =
    let first = prefix_of event n (suc k) behind (omega (arith, within)) in
    let is : each_rank event n ++ behind ≡ each_rank event k ++ event k ∷ first.0 =
    first.1 ∙ append_assoc (each_rank event k) (event k ∷ []) first.0 in
    ap (λ (l : List Event). slice_get l k) is
    ∙ subst (λ (m : ℕ). slice_get (each_rank event k ++ event k ∷ first.0) m ≡ Some (event k)) (long event k)
    (get_at (each_rank event k) (event k) first.0)

-- ---- one peer in the place of another

-- the tapes are still safe if what is left of the new peer's tape is, and if all that was acknowledged still is
pub safe_put : (past : Past) (rank : ℕ) (was now : PeerPast) → IsSafe past → slice_get past.peers rank ≡ Some was
    → EachLedger (KeepsNotes now) now.tape.log → ((mark : ℕ) → HasAcknowledged mark was → HasAcknowledged mark now)
    → IsSafe (with_peer past rank now)
safe_put past rank was now safe here each has = record {
  peers = all_set (λ (peer : PeerPast). EachLedger (KeepsNotes peer) peer.tape.log) past.peers rank now safe.peers
      each;
  intake = EachLedger-weaker (KeepsLines past.intake.history past.peers)
      (KeepsLines past.intake.history (set past.peers rank now))
      (λ state keeps. record {
        prefix = keeps.prefix;
        lines = all_set (HasAcknowledged state.mark) past.peers rank now keeps.lines
            (has state.mark (all_at (HasAcknowledged state.mark) past.peers rank was keeps.lines here));
      }) past.intake.log safe.intake;
}

-- nothing pends if all was recovered
none_pends : (mark : ℕ) (h : History) (count : ℕ) → AllByRecursion (IsAbove mark) (pending_notes (recovered h count))
none_pends mark h count = subst (AllByRecursion (IsAbove mark)) (sym (drop_taken count h.notes)) tt

pub has_opened : (mark : ℕ) (peer : PeerPast) (tape : TapePast) (count : ℕ)
    → tape.history ≡ recovered peer.tape.history count
    → HasAcknowledged mark (opened_peer peer tape)
has_opened mark peer tape count is =
    subst (λ (h : History). AllByRecursion (IsAbove mark) (pending_notes h)) (sym is)
    (none_pends mark peer.tape.history count)

pub sound_opened : (past : Past) (rank : ℕ) (peer : PeerPast) (tape : TapePast) (count : ℕ) → IsSound past
    → slice_get past.peers rank ≡ Some peer
    → tape.history ≡ recovered peer.tape.history count → IsSound (with_peer past rank (opened_peer peer tape))
sound_opened past rank peer tape count sound here is = record {
  names = names_set past rank peer _ sound.names here refl;
  fits = sound.fits;
  marked = sound.marked;
  acknowledged = all_set (HasAcknowledged (mark_at past.intake)) past.peers rank _ sound.acknowledged
      (has_opened (mark_at past.intake) peer tape count is);
  kept = sound.kept;
  parted = λ number e. all_set (HasParted number) past.peers rank _ (sound.parted number e)
      (λ _. has_opened number peer tape count is);
}
