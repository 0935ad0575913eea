-- Lines that are skipped, piece by piece.
use Rattle.std.specs.Prelude.{◌≡◌, ◌≢◌, ◌+◌, ◌-◌, ◌<◌, ◌⊎◌, ℕ}
use Rattle.std.specs.Prelude.{List, [], ◌∷◌, ◌++◌, Option, refl}
use Rattle.std.proofs.Common.{ap, arith, inl, inr}
use Rattle.std.proofs.lemmas.Grind.{common_steps}
use Rattle.std.proofs.KnownBytes.{Consumes-nil, Consumes-trans}
use Rattle.std.proofs.lemmas.List.Elements.{All-head, All-tail}
use Rattle.std.specs.Io.KnownBytes.{Consumes}
use Rattle.funnel.specs.Stream.{BeginsWithLine, Held, IsUnended, StandsFor}
use Rattle.funnel_files.specs.Funnel.{IsBehind, IsPassing, PassesLines, ends_in}

ends_append : (xs ys : List ℕ) → ends_in (xs ++ ys) ≡ ends_in xs + ends_in ys
ends_append [] ys = omega arith
ends_append (x ∷ xs) ys =
    let e = ends_append xs ys in
    omega (arith, e)

ends_none : (octets : List ℕ) → IsUnended octets → ends_in octets ≡ 0
ends_none [] h = refl
ends_none (x ∷ xs) h =
    let head : x ≢ 10 = All-head (λ octet. octet ≢ 10) x xs h in
    let rest : ends_in xs ≡ 0 = ends_none xs (All-tail (λ octet. octet ≢ 10) x xs h) in
    grind (arith, common_steps, head, rest)

pub behind_none : (piece : List ℕ) → IsBehind 0 piece piece
behind_none piece = record { lines = []; are = record { ends = refl; whole = inl refl }; parts = refl }

pub behind_more : (count : ℕ) (piece rest line next : List ℕ) → IsBehind count piece rest
    → BeginsWithLine rest line next
    → IsBehind (count + 1) piece next
behind_more count piece rest line next b begins =
    let none : ends_in line ≡ 0 = ends_none line begins.1 in
    let own : ends_in (line ++ 10 ∷ []) ≡ 1 = (let e = ends_append line (10 ∷ []) in omega (arith, e, none)) in
    let all : ends_in (b.lines ++ (line ++ 10 ∷ [])) ≡ count + 1 = (let e = ends_append b.lines
    (line ++ 10 ∷ []) in let c = b.are.ends in omega (arith, e, own, c)) in
    let parts : piece ≡ (b.lines ++ (line ++ 10 ∷ [])) ++ next = grind (arith, common_steps, b.parts, begins.0) in
    record {
      lines = b.lines ++ (line ++ 10 ∷ []);
      are = record { ends = all; whole = inr (b.lines ++ line, grind (arith, common_steps)) };
      parts = parts;
    }

pub behind_short : (count lines : ℕ) (piece rest : List ℕ) → IsBehind count piece rest → IsUnended rest
    → count < lines
    → (0 < lines - count) × (ends_in piece + (lines - count) ≡ lines)
behind_short count lines piece rest b unended below =
    let none : ends_in rest ≡ 0 = ends_none rest unended in
    let e = ends_append b.lines rest in
    let p : ends_in piece ≡ ends_in (b.lines ++ rest) = ap ends_in b.parts in
    let c = b.are.ends in
    (omega (arith, below), omega (arith, e, p, c, none, below))

pub passes_none : (lines : ℕ) (now : Option (List ℕ)) → IsPassing lines lines now now
passes_none lines now = record { octets = []; read = Consumes-nil now; counted = omega arith; within = inl refl }

pub passes_more : (lines left missing : ℕ) (a b c : Option (List ℕ)) (piece : List ℕ) → IsPassing lines left a b
    → Consumes b c piece
    → ends_in piece + missing ≡ left → 0 < missing → IsPassing lines missing a c
passes_more lines left missing a b c piece p read counted some = record {
  octets = p.octets ++ piece;
  read = Consumes-trans a b c p.octets piece p.read read;
  counted = (let e = ends_append p.octets piece in let n = p.counted in omega (arith, e, n, counted));
  within = inr some;
}

-- whole lines after octets that end none of them
whole : (octets lines : List ℕ) (left : ℕ) → (octets ≡ []) ⊎ (0 < left) → ends_in lines ≡ left
    → (lines ≡ []) ⊎ ((body : List ℕ) × (lines ≡ body ++ 10 ∷ []))
    → (octets ++ lines ≡ []) ⊎ ((body : List ℕ) × (octets ++ lines ≡ body ++ 10 ∷ []))
whole octets lines left w ends (inr (body, e)) = inr (octets ++ body, grind (arith, common_steps, e))
whole octets lines left (inl none) ends (inl empty) = inl (grind (arith, common_steps, none, empty))
whole octets lines left (inr some) ends (inl empty) =
    let zero : ends_in lines ≡ 0 = ap ends_in empty in
    absurd (omega (arith, some, ends, zero))

pub passes_all : (lines left : ℕ) (a b c : Option (List ℕ)) (piece rest : List ℕ) (cutter : Held)
    → IsPassing lines left a b → Consumes b c piece
    → IsBehind left piece rest → StandsFor cutter rest [] → PassesLines lines a c cutter
passes_all lines left a b c piece rest cutter p read behind fed = record {
  octets = p.octets ++ piece;
  rest = rest;
  behind = record {
    lines = p.octets ++ behind.lines;
    are = record {
      ends = (let e = ends_append p.octets behind.lines in let n = p.counted in let m = behind.are.ends in omega
          (arith, e, n, m));
      whole = whole p.octets behind.lines left p.within behind.are.ends behind.are.whole;
    };
    parts = grind (arith, common_steps, behind.parts);
  };
  read = Consumes-trans a b c p.octets piece p.read read;
  fed = fed;
}
