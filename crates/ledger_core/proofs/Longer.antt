-- Where payloads stop being a tape, and more of them.
use Rattle.std.proofs.Common.{◌≡◌, ℕ, zero, suc, ◌+◌, ◌<◌, List, [], ◌∷◌, ◌++◌, length, drop}
use Rattle.std.proofs.Common.{Some, inl, inr, refl, sym, ap, ◌∙◌, subst, arith}
use Rattle.std.specs.Prelude.{slice_get}
use Rattle.std.proofs.lemmas.List.{drop-append-le, take-append-le}
use Rattle.std.proofs.lemmas.Option.{slice_get_within}
use Rattle.ledger_core.specs.declared.base.Base.{Base}
use Rattle.ledger_core.specs.Base.{BeginsWith, HasNoBase, RestoreStopsAt, StopsBehind, based_on, marks_in}
use Rattle.ledger_core.specs.Replay.{LeavesFrom, StopsFrom}
use Rattle.ledger_core.specs.State.{State, start}
use Rattle.ledger_core.proofs.Owed.{end-longer, has-count, has-longer}

pub found-longer : (payloads more : List (List ℕ)) (index : ℕ) → index < length payloads
    → slice_get (payloads ++ more) index ≡ slice_get payloads index
found-longer [] more index within = absurd (omega arith)
found-longer (payload ∷ payloads) more zero within = refl
found-longer (payload ∷ payloads) more (suc index) within = found-longer payloads more index (omega arith)

-- the first of others
pub found-next : (payloads : List (List ℕ)) (payload : List ℕ)
    → slice_get (payloads ++ payload ∷ []) (length payloads) ≡ Some payload
found-next [] payload = refl
found-next (first ∷ payloads) payload = found-next payloads payload

-- behind one state
pub stops-longer : (first : State) (payloads more : List (List ℕ)) (index : ℕ) → StopsFrom first payloads index
    → StopsFrom first (payloads ++ more) index
stops-longer first payloads more index stop =
    let within = slice_get_within payloads index stop.octets stop.here in
    record {
      state = stop.state;
      before = subst (λ ps. LeavesFrom first ps stop.state)
          (sym (take-append-le index payloads more (omega (arith, within)))) stop.before;
      octets = stop.octets;
      here = found-longer payloads more index within ∙ stop.here;
      stops = stop.stops;
    }

pub behind-longer : (base : Base) (behind more : List (List ℕ)) (index : ℕ) → index < 1 + length behind
    → StopsBehind base behind index → StopsBehind base (behind ++ more) index
behind-longer base behind more index within (inl stop) = inl stop
behind-longer base behind more index within (inr (inl (sound, (debts, end, few, is)))) =
    inr (inl (sound, (debts, end-longer (marks_in base) behind more debts (omega (arith, within, is)) end, few, is)))
behind-longer base behind more index within (inr (inr (sound, (debts, has, live, (further, is, stop))))) =
    inr (inr (
      sound,
      (
        debts,
        has-longer (marks_in base) behind more debts has,
        live,
        (
          further,
          is,
          subst (λ ps. StopsFrom (based_on base debts) ps further)
              (sym (drop-append-le (length debts) behind more (has-count (marks_in base) behind debts has)))
              (stops-longer (based_on base debts) (drop (length debts) behind) more further stop),
        ),
      ),
    ))

pub no-base-longer : (payloads more : List (List ℕ)) → 0 < length payloads → HasNoBase payloads
    → HasNoBase (payloads ++ more)
no-base-longer [] more some none = absurd (omega arith)
no-base-longer (payload ∷ payloads) more some none = none

pub begins-longer : (payloads more : List (List ℕ)) (base : Base) (behind : List (List ℕ))
    → BeginsWith payloads base behind → BeginsWith (payloads ++ more) base (behind ++ more)
begins-longer payloads more base behind begins =
    record { is = begins.is; split = ap (λ (l : List (List ℕ)). l ++ more) begins.split }

-- of a tape's payloads
pub restore-longer : (payloads more : List (List ℕ)) (index : ℕ) → index < length payloads
    → RestoreStopsAt payloads index → RestoreStopsAt (payloads ++ more) index
restore-longer payloads more index within (inl (none, stop)) =
    inl (no-base-longer payloads more (omega (arith, within)) none, stops-longer start payloads more index stop)
restore-longer payloads more index within (inr (base, behind, begins, stop)) =
    inr (
      base,
      behind ++ more,
      begins-longer payloads more base behind begins,
      behind-longer base behind more index (omega (arith, within, ap length begins.split)) stop,
    )
