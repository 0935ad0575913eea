-- How octets split into lines, what is kept of a line, and what a cutter stands for after each call.
use Rattle.std.proofs.Common.{◌≡◌, ◌≢◌, ◌-◌, ℕ, zero, suc, min, List, [], ◌∷◌, ◌++◌, map, length, take, Option, None}
use Rattle.std.proofs.Common.{Some, Result, Ok, Err, sym, ◌∙◌, ap, refl, arith, subst, append_assoc}
use Rattle.std.specs.Prelude.{IfSome, IfNone, MatchOption, OnOk, is_ok, if◌then◌else◌}
use Rattle.std.specs.List.{All}
use Rattle.std.specs.Option.{option_to_list}
use Rattle.std.specs.Vec.{vec_items}
use Rattle.std.proofs.lemmas.List.{append-nil, map-append, map_push, nil_from_length, take_min}
use Rattle.std.proofs.lemmas.List.Concat.{flat_map-append}
use Rattle.std.proofs.lemmas.List.Elements.{All-append, All-cons, All-head, All-nil, All-push, All-tail}
use Rattle.std.specs.declared.vec.Vec.{Vec}
use Rattle.funnel.specs.Stream.{BeginsWithLine, Held, IsUnended, Splits, StandsFor, clipped, ended}
use Rattle.funnel.specs.StreamLaws.{ended_first, ended_push, first_line_once, whole_line_ends}

each-head : (line : List ℕ) (lines : List (List ℕ)) → All IsUnended (line ∷ lines) → IsUnended line
each-head line lines each = All-head (λ l. IsUnended l) line lines each

each-tail : (line : List ℕ) (lines : List (List ℕ)) → All IsUnended (line ∷ lines) → All IsUnended lines
each-tail line lines each = All-tail (λ l. IsUnended l) line lines each

-- octets have one list of lines and one rest
pub lines-once : (a b : List (List ℕ)) (r s : List ℕ) → All IsUnended a → All IsUnended b → IsUnended r → IsUnended s → ended a ++ r ≡ ended b ++ s → (a ≡ b) × (r ≡ s)
lines-once [] [] r s p q u v e = (refl, e)
lines-once [] (line ∷ b) r s p q u v e = absurd (whole_line_ends line (ended b ++ s) (subst (λ o. IsUnended o) (e ∙ ended_first line b s) u))
lines-once (line ∷ a) [] r s p q u v e = absurd (whole_line_ends line (ended a ++ r) (subst (λ o. IsUnended o) (sym e ∙ ended_first line a r) v))
lines-once (line ∷ a) (other ∷ b) r s p q u v e =
    let cut =
    first_line_once line other (ended a ++ r) (ended b ++ s) (each-head line a p) (each-head other b q) (sym (ended_first line a r) ∙ e ∙ ended_first other b s)
    in
    let first : line ≡ other = cut.0 in
    let later = lines-once a b r s (each-tail line a p) (each-tail other b q) u v cut.1 in
    let others : a ≡ b = later.0 in
    (cc, later.1)

-- more octets without an LF
splits-more : (fed piece : List ℕ) (lines : List (List ℕ)) (rest : List ℕ) → Splits fed lines rest → IsUnended piece → Splits (fed ++ piece) lines (rest ++ piece)
splits-more fed piece lines rest s unended = record {
  whole = ap (λ octets. octets ++ piece) s.whole ∙ append_assoc (ended lines) rest piece;
  each = s.each;
  last = All-append (λ o. o ≢ 10) rest piece s.last unended;
}

-- the end of a line, and the octets behind its LF
splits-ended : (fed end behind : List ℕ) (lines more : List (List ℕ)) (rest last : List ℕ) → Splits fed lines rest → IsUnended end → Splits behind more last
    → Splits (fed ++ (end ++ 10 ∷ behind)) (lines ++ (rest ++ end) ∷ more) last
splits-ended fed end behind lines more rest last s unended t =
    let line = rest ++ end in
    let parts : rest ++ (end ++ 10 ∷ behind) ≡ ended (line ∷ more) ++ last =
    sym (append_assoc rest end (10 ∷ behind)) ∙ ap (λ octets. line ++ 10 ∷ octets) t.whole ∙ sym (ended_first line more last)
    in
    let all : ended (lines ++ line ∷ more) ≡ ended lines ++ ended (line ∷ more) = flat_map-append (λ l. l ++ 10 ∷ []) lines (line ∷ more) in
    record {
      whole =
          ap (λ octets. octets ++ (end ++ 10 ∷ behind)) s.whole ∙ append_assoc (ended lines) rest (end ++ 10 ∷ behind)
          ∙ ap (λ octets. ended lines ++ octets) parts ∙ sym (append_assoc (ended lines) (ended (line ∷ more)) last)
          ∙ ap (λ octets. octets ++ last) (sym all);
      each = All-append (λ l. IsUnended l) lines (line ∷ more) s.each (All-cons (λ l. IsUnended l) line more (All-append (λ o. o ≢ 10) rest end s.last unended) t.each);
      last = t.last;
    }

-- a cutter that was fed nothing
pub stands-new : (held : Held) → held.lines ≡ [] → held.rest ≡ [] → StandsFor held [] []
stands-new held lines rest = record {
  lines = [];
  rest = [];
  splits = record { whole = refl; each = All-nil (λ l. IsUnended l); last = All-nil (λ o. o ≢ 10) };
  holds_lines = lines;
  holds_rest = rest;
}

-- a cutter that was fed no LF
pub stands-more : (old new : Held) (fed piece : List ℕ) (given : List (List ℕ)) → StandsFor old fed given → IsUnended piece
    → new.lines ≡ old.lines → ((line : List ℕ) → old.rest ≡ clipped line → new.rest ≡ clipped (line ++ piece)) → StandsFor new (fed ++ piece) given
stands-more old new fed piece given s unended same longer = record {
  lines = s.lines;
  rest = s.rest ++ piece;
  splits = splits-more fed piece (given ++ s.lines) s.rest s.splits unended;
  holds_lines = same ∙ s.holds_lines;
  holds_rest = longer s.rest s.holds_rest;
}

-- a cutter that was fed the end of a line, its LF and the octets behind it, of which `later` was fed the last
pub stands-ended : (old later new : Held) (fed end behind line : List ℕ) (given : List (List ℕ)) → StandsFor old fed given → IsUnended end → StandsFor later behind []
    → ((prefix : List ℕ) → old.rest ≡ clipped prefix → line ≡ clipped (prefix ++ end)) → new.lines ≡ (old.lines ++ line ∷ []) ++ later.lines → new.rest ≡ later.rest
    → StandsFor new (fed ++ (end ++ 10 ∷ behind)) given
stands-ended old later new fed end behind line given s unended t longer lines rest =
    let whole = s.rest ++ end in
    let split : Splits (fed ++ (end ++ 10 ∷ behind)) ((given ++ s.lines) ++ whole ∷ t.lines) t.rest =
    splits-ended fed end behind (given ++ s.lines) t.lines s.rest t.rest s.splits unended t.splits
    in
    record {
      lines = s.lines ++ whole ∷ t.lines;
      rest = t.rest;
      splits = subst (λ ls. Splits (fed ++ (end ++ 10 ∷ behind)) ls t.rest) (append_assoc given s.lines (whole ∷ t.lines)) split;
      holds_lines =
          lines ∙ append_assoc old.lines (line ∷ []) later.lines ∙ ap (λ ls. ls ++ line ∷ later.lines) s.holds_lines
          ∙ ap (λ l. map clipped s.lines ++ l ∷ later.lines) (longer s.rest s.holds_rest)
          ∙ ap (λ ls. map clipped s.lines ++ clipped whole ∷ ls) t.holds_lines ∙ sym (map-append clipped s.lines (whole ∷ t.lines));
      holds_rest = rest ∙ t.holds_rest;
    }

given-step : (lines : List (List ℕ)) (new : Held) (fed octets rest : List ℕ) (given : List (List ℕ)) → Splits fed (given ++ lines) rest → (octets ∷ new.lines) ≡ map clipped lines
    → new.rest ≡ clipped rest → (line : List ℕ) × (octets ≡ clipped line) × StandsFor new fed (given ++ line ∷ [])
given-step [] new fed octets rest given split holds kept = absurd cc
given-step (line ∷ lines) new fed octets rest given split holds kept =
    let first : octets ≡ clipped line = cc in
    let others : new.lines ≡ map clipped lines = cc in (
      line,
      first,
      record {
        lines = lines;
        rest = rest;
        splits = subst (λ ls. Splits fed ls rest) (sym (append_assoc given (line ∷ []) lines)) split;
        holds_lines = others;
        holds_rest = kept;
      },
    )

-- a cutter that gave its first line
pub stands-given : (old new : Held) (fed octets : List ℕ) (given : List (List ℕ)) → StandsFor old fed given → old.lines ≡ octets ∷ new.lines → new.rest ≡ old.rest
    → (line : List ℕ) × (octets ≡ clipped line) × StandsFor new fed (given ++ line ∷ [])
stands-given old new fed octets given s lines rest =
    given-step s.lines new fed octets s.rest given s.splits (sym lines ∙ s.holds_lines) (rest ∙ s.holds_rest)

none-step : (lines : List (List ℕ)) (fed rest : List ℕ) (given : List (List ℕ)) → Splits fed (given ++ lines) rest → [] ≡ map clipped lines → Splits fed given rest
none-step [] fed rest given split holds = subst (λ ls. Splits fed ls rest) (append-nil given) split
none-step (line ∷ lines) fed rest given split holds = absurd cc

-- a cutter that holds no whole line
pub stands-none : (old : Held) (fed : List ℕ) (given : List (List ℕ)) → StandsFor old fed given → old.lines ≡ [] → (rest : List ℕ) × Splits fed given rest
stands-none old fed given s lines = (s.rest, none-step s.lines fed s.rest given s.splits (sym lines ∙ s.holds_lines))

-- Octets of which some lines were cut off, and `left` is left: of those lines `kept` is kept.
pub record CutTo (octets left : List ℕ) (kept : List (List ℕ)) : Type 0 where
  pub lines : List (List ℕ)
  pub whole : octets ≡ ended lines ++ left
  pub each : All IsUnended lines
  pub holds : kept ≡ map clipped lines

pub cut-none : (octets : List ℕ) → CutTo octets octets []
cut-none octets = record { lines = []; whole = refl; each = All-nil (λ l. IsUnended l); holds = refl }

pub cut-more : (octets left line behind : List ℕ) (kept more : List (List ℕ)) → CutTo octets left kept → BeginsWithLine left line behind → more ≡ kept ++ clipped line ∷ []
    → CutTo octets behind more
cut-more octets left line behind kept more c (parts, unended) holds = record {
  lines = c.lines ++ line ∷ [];
  whole = ended_push octets left line behind c.lines c.whole parts;
  each = All-push (λ l. IsUnended l) c.lines line c.each unended;
  holds = holds ∙ ap (λ ls. ls ++ clipped line ∷ []) c.holds ∙ sym (map_push clipped c.lines line);
}

-- a cutter that was fed these octets alone
pub stands-cut : (held : Held) (octets left : List ℕ) → CutTo octets left held.lines → IsUnended left → held.rest ≡ clipped left → StandsFor held octets []
stands-cut held octets left c unended rest = record {
  lines = c.lines;
  rest = left;
  splits = record { whole = c.whole; each = c.each; last = unended };
  holds_lines = c.holds;
  holds_rest = rest;
}

-- one more line behind others
pub items-push : {Z : Type 0} (lines more : List (Vec ℕ Z)) (line : Vec ℕ Z) (octets : List ℕ) → more ≡ lines ++ line ∷ [] → line.items ≡ octets
    → map vec_items more ≡ map vec_items lines ++ octets ∷ []
items-push lines more line octets pushed is =
    ap (λ vs. map vec_items vs) pushed ∙ map_push vec_items lines line ∙ ap (λ os. map vec_items lines ++ os ∷ []) is

-- the same, and later lines behind that
items-joined : {Z : Type 0} (lines roomy pushed joined later : List (Vec ℕ Z)) (line : Vec ℕ Z) (octets : List ℕ) → roomy ≡ lines → pushed ≡ roomy ++ line ∷ [] → line.items ≡ octets
    → joined ≡ pushed ++ later → map vec_items joined ≡ (map vec_items lines ++ octets ∷ []) ++ map vec_items later
items-joined lines roomy pushed joined later line octets same push is join =
    ap (λ vs. map vec_items vs) join ∙ map-append vec_items pushed later
    ∙ ap (λ os. os ++ map vec_items later) (items-push lines pushed line octets (push ∙ ap (λ vs. vs ++ line ∷ []) same) is)

-- the same, of what cutters hold
pub lines-joined : {Z : Type 0} (lines roomy pushed joined later : List (Vec ℕ Z)) (line : Vec ℕ Z) (octets : List ℕ) (held behind : List (List ℕ)) → map vec_items lines ≡ held
    → map vec_items later ≡ behind → roomy ≡ lines → pushed ≡ roomy ++ line ∷ [] → line.items ≡ octets → joined ≡ pushed ++ later
    → map vec_items joined ≡ (held ++ octets ∷ []) ++ behind
lines-joined lines roomy pushed joined later line octets held behind first last same push is join =
    items-joined lines roomy pushed joined later line octets same push is join
    ∙ ap (λ os. (os ++ octets ∷ []) ++ map vec_items later) first ∙ ap (λ os. (held ++ octets ∷ []) ++ os) last

-- what a cutter gives, by what it takes from its queue
pub given-some : {Z : Type 0} (r : Option (Vec ℕ Z)) (before after : List (Vec ℕ Z)) (old new : Held) → before ≡ option_to_list r ++ after → old.lines ≡ map vec_items before
    → new.lines ≡ map vec_items after → new.rest ≡ old.rest
    → IfSome r (λ octets. (fed : List ℕ) (given : List (List ℕ)) → StandsFor old fed given → (line : List ℕ) × (octets.items ≡ clipped line) × StandsFor new fed (given ++ line ∷ []))
given-some None before after old new took lines left rest = tt
given-some (Some v) before after old new took lines left rest = λ fed given s.
    stands-given old new fed v.items given s (lines ∙ ap (λ vs. map vec_items vs) took ∙ ap (λ ls. v.items ∷ ls) (sym left)) rest

pub given-none : {Z : Type 0} (Q : Vec ℕ Z → Type 0) (r : Option (Vec ℕ Z)) (before after : List (Vec ℕ Z)) (old : Held) (n m : ℕ) → before ≡ option_to_list r ++ after
    → MatchOption r ((n ≡ 0) × (m ≡ 0)) Q → m ≡ length after → old.lines ≡ map vec_items before
    → IfNone r ((fed : List ℕ) (given : List (List ℕ)) → StandsFor old fed given → (rest : List ℕ) × Splits fed given rest)
given-none Q None before after old n m took cases len lines = λ fed given s.
    stands-none old fed given s (lines ∙ ap (λ vs. map vec_items vs) (took ∙ nil_from_length after (sym len ∙ cases.1)))
given-none Q (Some v) before after old n m took cases len lines = tt

-- what holds where a call says that it went well
pub on-ok-items : {X T E : Type 0} (r : Result T E) (items more same : List X) → items ≡ (if is_ok r then more else same) → OnOk r (items ≡ more)
on-ok-items (Ok x) items more same e = e
on-ok-items (Err x) items more same e = tt

-- what is kept of a line and of more octets
take-more : (n : ℕ) (line octets : List ℕ) → take n line ++ take (n - length (take n line)) octets ≡ take n (line ++ octets)
take-more zero line octets = refl
take-more (suc n) [] octets = let room : suc n - 0 ≡ suc n = omega arith in ap (λ m. take m octets) room
take-more (suc n) (o ∷ line) octets =
    let room : suc n - suc (length (take n line)) ≡ n - length (take n line) = omega arith in
    ap (λ m. o ∷ (take n line ++ take m octets)) room ∙ ap (λ l. o ∷ l) (take-more n line octets)

-- the same, as it is put together
pub kept-more : (n len room taken : ℕ) (line octets kept longer : List ℕ) → kept ≡ take n line → len ≡ length kept → room ≡ n - len → taken ≡ min room (length octets)
    → longer ≡ kept ++ take taken octets → longer ≡ take n (line ++ octets)
kept-more n len room taken line octets kept longer is len-is room-is taken-is longer-is =
    let room-of : room ≡ n - length (take n line) = room-is ∙ ap (λ m. n - m) (len-is ∙ ap length is) in
    longer-is ∙ ap (λ m. kept ++ take m octets) taken-is ∙ ap (λ l. kept ++ l) (take_min room octets) ∙ ap (λ l. l ++ take room octets) is
    ∙ ap (λ m. take n line ++ take m octets) room-of ∙ take-more n line octets
