-- Octets have at most one fault, and none if they begin with a read form.
use Rattle.std.proofs.Common.{◌≡◌, ℕ, List, [], ◌∷◌, ◌++◌, refl, sym, ◌∙◌, ap, subst, inl, inr, Result, Err}
use Rattle.dot_codec.specs.Block.{end_of_block, HasForms, IsReadForm}
use Rattle.dot_codec.specs.Fault.{IsFaultAt, IsFaultyLine, HasBlockFault}
use Rattle.dot_codec.specs.Scan.{EndsRun}
use Rattle.dot_codec.specs.declared.fault.BlockFault.{BlockFault}
use Rattle.dot_codec.specs.declared.fault.BlockFault.TheVariants.{Unfinished, BareCr, BareLf, Nul, NoMemory}
use Rattle.dot_codec.specs.TextLaws.{cut_once}
use Rattle.dot_codec.proofs.Forms.{IsFinal, end_is_final, forms_once, forms_follow}

fault_ends : (fault : BlockFault) (tail : List ℕ) → IsFaultAt fault tail → EndsRun tail
fault_ends Unfinished tail at = elim at [ inl none ↦ subst EndsRun (sym none) tt | inr cr ↦ subst EndsRun (sym cr) refl ]
fault_ends BareCr tail (octet, rest, is, other) = subst EndsRun (sym is) refl
fault_ends BareLf tail (rest, is) = subst EndsRun (sym is) refl
fault_ends Nul tail (rest, is) = subst EndsRun (sym is) refl
fault_ends NoMemory tail at = absurd at

-- CR LF is not a fault
fault_no_end : (fault : BlockFault) (tail next : List ℕ) → IsFaultAt fault tail → tail ≡ 13 ∷ 10 ∷ next → ⊥
fault_no_end Unfinished tail next at is = elim at [ inl none ↦ cc | inr cr ↦ cc ]
fault_no_end BareCr tail next (octet, rest, at, other) is = other (cc (at, is))
fault_no_end BareLf tail next (rest, at) is = cc (at, is)
fault_no_end Nul tail next (rest, at) is = cc (at, is)
fault_no_end NoMemory tail next at is = at

fault_at_once : (a b : BlockFault) (tail : List ℕ) → IsFaultAt a tail → IsFaultAt b tail → a ≡ b
fault_at_once Unfinished Unfinished tail at_a at_b = refl
fault_at_once Unfinished BareCr tail at_a (octet, rest, is, other) = elim at_a [ inl none ↦ cc | inr cr ↦ cc ]
fault_at_once Unfinished BareLf tail at_a (rest, is) = elim at_a [ inl none ↦ cc | inr cr ↦ cc ]
fault_at_once Unfinished Nul tail at_a (rest, is) = elim at_a [ inl none ↦ cc | inr cr ↦ cc ]
fault_at_once BareCr Unfinished tail (octet, rest, is, other) at_b = elim at_b [ inl none ↦ cc | inr cr ↦ cc ]
fault_at_once BareCr BareCr tail at_a at_b = refl
fault_at_once BareCr BareLf tail (octet, rest, is, other) (rest', is') = cc
fault_at_once BareCr Nul tail (octet, rest, is, other) (rest', is') = cc
fault_at_once BareLf Unfinished tail (rest, is) at_b = elim at_b [ inl none ↦ cc | inr cr ↦ cc ]
fault_at_once BareLf BareCr tail (rest, is) (octet, rest', is', other) = cc
fault_at_once BareLf BareLf tail at_a at_b = refl
fault_at_once BareLf Nul tail (rest, is) (rest', is') = cc
fault_at_once Nul Unfinished tail (rest, is) at_b = elim at_b [ inl none ↦ cc | inr cr ↦ cc ]
fault_at_once Nul BareCr tail (rest, is) (octet, rest', is', other) = cc
fault_at_once Nul BareLf tail (rest, is) (rest', is') = cc
fault_at_once Nul Nul tail at_a at_b = refl
fault_at_once NoMemory b tail at_a at_b = absurd at_a
fault_at_once a NoMemory tail at_a at_b = absurd at_b

pub faulty_is_final : (fault : BlockFault) (octets : List ℕ) → IsFaultyLine fault octets → IsFinal octets
faulty_is_final fault octets (body, tail, is, line, at) = record {
  body = body;
  tail = tail;
  is = is;
  line = line;
  ends = fault_ends fault tail at;
  last = λ next end. absurd (fault_no_end fault tail next at end);
}

faulty_once : (a b : BlockFault) (octets : List ℕ) → IsFaultyLine a octets → IsFaultyLine b octets → a ≡ b
faulty_once a b octets (body, tail, is, line, at) (body', tail', is', line', at') =
    let cut = cut_once body body' tail tail' line line' (fault_ends a tail at) (fault_ends b tail' at') (sym is ∙ is') in
    fault_at_once a b tail' (subst (IsFaultAt a) cut.1 at) at'

-- octets have one fault
pub fault_once : (a b : BlockFault) (octets : List ℕ) → HasBlockFault octets a → HasBlockFault octets b → a ≡ b
fault_once a b octets (lines, rest, has, faulty) (lines', rest', has', faulty') =
    let once = forms_once lines lines' octets rest rest' has has' (faulty_is_final a rest faulty) (faulty_is_final b rest' faulty') in
    faulty_once a b rest' (subst (IsFaultyLine a) once.1 faulty) faulty'

no_fault_at_end : (fault : BlockFault) (rest : List ℕ) → IsFaultyLine fault (end_of_block ++ rest) → ⊥
no_fault_at_end fault rest (body, tail, is, line, at) =
    let cut = cut_once (46 ∷ []) body (13 ∷ 10 ∷ rest) tail refl line refl (fault_ends fault tail at) is in
    fault_no_end fault tail rest at (sym cut.1)

-- octets that begin with a read form have no fault
pub form_has_no_fault : (fault : BlockFault) (lines : List (List ℕ)) (octets form rest : List ℕ) → IsReadForm lines form → octets ≡ form ++ rest → HasBlockFault octets fault → ⊥
form_has_no_fault fault lines octets form rest read is (lines', rest', has', faulty) =
    let has = subst (λ (o : List ℕ). HasForms lines o (end_of_block ++ rest)) (sym is) (forms_follow lines form end_of_block rest read) in
    let once = forms_once lines lines' octets (end_of_block ++ rest) rest' has has' (end_is_final rest) (faulty_is_final fault rest' faulty) in
    no_fault_at_end fault rest (subst (IsFaultyLine fault) (sym once.1) faulty)

-- a result that names a fault names that of the octets
pub told_first : {X : Type 0} (named fault : BlockFault) (octets : List ℕ) → HasBlockFault octets named → ((◌≡◌ {A = Result X BlockFault} (Err named) (Err fault)) → HasBlockFault octets fault) × (HasBlockFault octets fault → ◌≡◌ {A = Result X BlockFault} (Err named) (Err fault))
told_first {X} named fault octets has = (
  λ is. let same : named ≡ fault = cc in subst (HasBlockFault octets) same has,
  λ other. ap Err (fault_once named fault octets has other),
)

-- octets that begin with a read form give no fault
pub told_none : {P : Type 0} (fault : BlockFault) (lines : List (List ℕ)) (octets form rest : List ℕ) → (P → ⊥) → IsReadForm lines form → octets ≡ form ++ rest → (P → HasBlockFault octets fault) × (HasBlockFault octets fault → P)
told_none fault lines octets form rest never read is = (λ p. absurd (never p), λ has. absurd (form_has_no_fault fault lines octets form rest read is has))
