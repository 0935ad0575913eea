-- Names that are kept, and lines that are counted.
use Rattle.std.specs.Prelude.{◌≡◌, ◌+◌, ◌<◌, ◌≤◌, ℕ, Bool, true, false, ◌||◌}
use Rattle.std.specs.Prelude.{◌&&◌, List, [], ◌∷◌, ◌++◌, length, map, All, IsTrue}
use Rattle.std.specs.Prelude.{if◌then◌else◌, refl}
use Rattle.std.specs.List.{list_all, list_any}
use Rattle.std.specs.Str.{bytes_eq}
use Rattle.std.proofs.Common.{sym, ◌∙◌, ap, subst, arith, inl, inr, take, get_or}
use Rattle.std.proofs.lemmas.List.{take_more}
use Rattle.std.proofs.lemmas.Grind.{common_steps}
use Rattle.std.proofs.lemmas.List.Folds.{list_all-append, list_any-append}
use Rattle.std.proofs.lemmas.List.Elements.{All-append, All-cons, All-nil}
use Rattle.std.proofs.lemmas.Slice.Eq.{bytes_eq-Decides}
use Rattle.std.proofs.Math.Bool.{or-true}
use Rattle.std.proofs.lemmas.List.{length-map}
use Rattle.intake.specs.declared.nowhere.UnknownPeer.{UnknownPeer}
use Rattle.intake.specs.declared.nowhere.UnknownPeers.{UnknownPeers}
use Rattle.kept_lines.specs.Names.{is_named}
use Rattle.intake.specs.Nowhere.{AddsLine, KeepsAll, KeepsOne, counted, has_all, has_name}
use Rattle.funnel.specs.Malformed.{one_more}

-- a name that is kept stays so
has_more : (named : List UnknownPeer) (peer : UnknownPeer) (name : List ℕ) → has_name named name ≡ true
    → has_name (named ++ peer ∷ []) name ≡ true
has_more named peer name h = rw (list_any-append (λ one. bytes_eq one.name name) named (peer ∷ []), h) refl

has_all_more : (named : List UnknownPeer) (peer : UnknownPeer) (names : List (List ℕ)) → has_all named names ≡ true
    → has_all (named ++ peer ∷ []) names ≡ true
has_all_more named peer [] h = refl
has_all_more named peer (name ∷ names) h =
    let first : has_name named name ≡ true = grind (arith, common_steps, h) in
    let rest : has_all named names ≡ true = grind (arith, common_steps, h) in
    rw (has_more named peer name first, has_all_more named peer names rest) refl

-- one more name
has_all_snoc : (named : List UnknownPeer) (names : List (List ℕ)) (name : List ℕ) → has_all named names ≡ true
    → has_name named name ≡ true
    → has_all named (names ++ name ∷ []) ≡ true
has_all_snoc named names name h last = rw (list_all-append (has_name named) names (name ∷ []), h, last) refl

-- a counted peer has its name
has_counted : (lines : List (List ℕ)) (named : List UnknownPeer) (name : List ℕ)
    → has_name (map (counted lines) named) name ≡ has_name named name
has_counted lines [] name = refl
has_counted lines (peer ∷ named) name =
    let e : (counted lines peer).name ≡ peer.name = (elim (is_named lines peer.name) as (λ b.
    (if b then record peer { lines = one_more peer.lines } else peer).name ≡ peer.name) [
      | true ↦ refl
      | false
          ↦ refl
    ]) in
    rw (e, has_counted lines named name) refl

has_all_counted : (lines : List (List ℕ)) (named : List UnknownPeer) (names : List (List ℕ))
    → has_all (map (counted lines) named) names ≡ has_all named names
has_all_counted lines named [] = refl
has_all_counted lines named (name ∷ names) = rw (has_counted lines named name, has_all_counted lines named names) refl

-- nothing is to be kept
pub keeps_none : (old : UnknownPeers) → KeepsAll [] old old
keeps_none old = record {
  fresh = [];
  named = grind (arith, common_steps);
  no_line = λ k d h. absurd (omega
      (arith, h));
  others = refl;
  room = λ h. refl;
}

-- a name that is kept already, or for which there is no room
pub keeps_same : (names : List (List ℕ)) (name : List ℕ) (old new : UnknownPeers) → KeepsAll names old new
    → (length new.named.items < 16 → has_name new.named.items name ≡ true) → KeepsAll (names ++ name ∷ []) old new
keeps_same names name old new k h = record {
  fresh = k.fresh;
  named = k.named;
  no_line = k.no_line;
  others = k.others;
  room = λ few. has_all_snoc new.named.items names name (k.room few) (h few);
}

-- the name that was kept last
has_last : (named : List UnknownPeer) (peer : UnknownPeer) (name : List ℕ) → peer.name ≡ name
    → has_name (named ++ peer ∷ []) name ≡ true
has_last named peer name is =
    let same : bytes_eq peer.name name ≡ true = (bytes_eq-Decides peer.name name).1 is in
    rw (list_any-append (λ one. bytes_eq one.name name) named (peer ∷ []), same) (or-true (list_any
    (λ one. bytes_eq one.name name) named))

-- a new name, for which there is room
pub keeps_more : (names : List (List ℕ)) (name : List ℕ) (peer : UnknownPeer) (old mid new : UnknownPeers)
    → KeepsAll names old mid
    → length mid.named.items < 16 → peer.name ≡ name → peer.lines ≡ 0
    → new.named.items ≡ mid.named.items ++ peer ∷ [] → new.others ≡ mid.others
    → KeepsAll (names ++ name ∷ []) old new
keeps_more names name peer old mid new k few is zero named others =
    let all : has_all (mid.named.items ++ peer ∷ []) names ≡ true = has_all_more mid.named.items peer names
    (k.room few) in
    let last : has_name (mid.named.items ++ peer ∷ []) name ≡ true = has_last mid.named.items peer name is in
    let both = has_all_snoc (mid.named.items ++ peer ∷ []) names name all last in
    record {
      fresh = k.fresh ++ peer ∷ [];
      named = grind (arith, common_steps, named, k.named);
      no_line = All-append (λ one. one.lines ≡ 0) k.fresh (peer ∷ []) k.no_line (All-cons
          (λ one. one.lines ≡ 0) peer [] zero (All-nil (λ one. one.lines ≡ 0)));
      others = others ∙ k.others;
      room = λ h. subst (λ all. has_all all (names ++ name ∷ []) ≡ true) (sym named) both;
    }

-- one more name of those that are to be kept
pub keeps_step : (names : List (List ℕ)) (i : ℕ) (name : List ℕ) (old mid new : UnknownPeers) → i < length names
    → name ≡ get_or names i name
    → KeepsAll (take i names) old mid → KeepsOne name mid new → KeepsAll (take (i + 1) names) old new
keeps_step names i name old mid new within is k (inl (same, has)) =
    let e : take (i + 1) names ≡ take i names ++ name ∷ [] = take_more names i name within
    ∙ ap (λ one. take i names ++ one ∷ []) (sym is) in
    let kept : KeepsAll (take i names ++ name ∷ []) old mid = keeps_same (take i names) name old mid k has in
    subst (λ all. KeepsAll all old new) (sym e) (subst (λ one. KeepsAll (take i names ++ name ∷ []) old one)
    (sym same) kept)
keeps_step names i name old mid new within is k (inr (peer, few, named, zero, more, others)) =
    let e : take (i + 1) names ≡ take i names ++ name ∷ [] = take_more names i name within
    ∙ ap (λ one. take i names ++ one ∷ []) (sym is) in
    subst (λ all. KeepsAll all old new) (sym e) (keeps_more
    (take i names) name peer old mid new k few named zero more others)

-- a line is counted at what is kept, and then among the others
pub adds_line : (names : List (List ℕ)) (old mid at new : UnknownPeers) → KeepsAll names old mid
    → at.named.items ≡ map (counted names) mid.named.items → at.others ≡ mid.others → new.named ≡ at.named
    → new.others ≡ (if has_all at.named.items names then at.others else one_more at.others) → AddsLine names old new
adds_line names old mid at new k named same kept others =
    let items : new.named.items ≡ at.named.items = ap (λ v. v.items) kept in
    let before : at.others ≡ old.others = same ∙ k.others in
    record {
      fresh = k.fresh;
      no_line = k.no_line;
      named = items ∙ named ∙ ap (map (counted names)) k.named;
      others =
          subst (λ all. new.others ≡ (if has_all all names then old.others else one_more old.others)) (sym items)
          (subst (λ count. new.others ≡
          (if has_all at.named.items names then count else one_more count)) before others);
      room = λ few.
          let e : length new.named.items ≡ length mid.named.items =
          ap length items ∙ ap length named ∙ length-map mid.named.items (counted names) in
          let room : length mid.named.items < 16 = omega (arith, e, few) in
          subst (λ all. has_all all names ≡ true) (sym (items ∙ named))
          (has_all_counted names mid.named.items names ∙ k.room room);
    }
