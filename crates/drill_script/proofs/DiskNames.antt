-- A word names one disk at most.
use Rattle.std.proofs.Common.{◌≡◌, ◌≢◌, ℕ, true, List, [], ◌∷◌, ◌++◌, Option, None, Some, refl, sym, subst, ap}
use Rattle.std.proofs.Common.{◌∙◌, arith}
use Rattle.std.specs.Prelude.{IfOk, IsTrue, MatchOption, Result, Ok, Err, codes}
use Rattle.std.specs.Bool.{Decides}
use Rattle.std.specs.List.{list_all}
use Rattle.std.proofs.lemmas.Bool.{and_from, and_parts}
use Rattle.std.proofs.lemmas.List.{append_cancel_right}
use Rattle.std.proofs.lemmas.List.Elements.{All-append}
use Rattle.std.proofs.lemmas.Slice.Eq.{bytes_eq-Decides}
use Rattle.funnel.specs.Names.{is_name_octet, is_peer_name}
use Rattle.drill_script.specs.DiskName.{IsNamed, Names, NamesTape, is_same, same_side, same_tape, tape_word, word_of}
use Rattle.drill_script.specs.Words.{IsSolid}
use Rattle.drill_script.specs.declared.disk_name.DiskName.{DiskName}
use Rattle.drill_script.specs.declared.disk_name.TapeDisk.{TapeDisk}
use Rattle.drill_script.specs.declared.disk_name.TapeDisk.TheVariants.{First, Second}
use Rattle.drill_script.proofs.Cuts.{solid_from}
use Rattle.drill_script.proofs.Peers.{name_octets, name_solid}

-- ---- the test of names

same_tapes : (one other : Option (List ℕ)) → Decides (same_tape one other) (one ≡ other)
same_tapes None None = (λ e. refl, λ e. refl)
same_tapes None (Some other) = (λ e. cc, λ e. cc)
same_tapes (Some one) None = (λ e. cc, λ e. cc)
same_tapes (Some one) (Some other) = (
  λ e. ap Some ((bytes_eq-Decides one other).0 e),
  λ e. let same : one ≡ other = cc in (bytes_eq-Decides one other).1 same,
)

same_sides : (one other : TapeDisk) → Decides (same_side one other) (one ≡ other)
same_sides First First = (λ e. refl, λ e. refl)
same_sides First Second = (λ e. cc, λ e. cc)
same_sides Second First = (λ e. cc, λ e. cc)
same_sides Second Second = (λ e. refl, λ e. refl)

-- names of the same tape and side are the same
pub one_name : (one other : DiskName) → one.peer ≡ other.peer → one.disk ≡ other.disk → one ≡ other
one_name one other peer disk =
    let first : one ≡ record { peer = other.peer; disk = one.disk } =
    ap (λ (p : Option (List ℕ)). record { peer = p; disk = one.disk }) peer in
    let last : record { peer = other.peer; disk = one.disk } ≡ other =
    ap (λ (d : TapeDisk). record { peer = other.peer; disk = d }) disk in
    first ∙ last

pub is_same-Decides : (one other : DiskName) → Decides (is_same one other) (one ≡ other)
is_same-Decides one other = (
  λ e. let parts = and_parts (same_tape one.peer other.peer) (same_side one.disk other.disk) e in
      one_name one other ((same_tapes one.peer other.peer).0 parts.0) ((same_sides one.disk other.disk).0 parts.1),
  λ e. and_from (same_tape one.peer other.peer) (same_side one.disk other.disk)
      ((same_tapes one.peer other.peer).1 (ap (λ (n : DiskName). n.peer) e))
      ((same_sides one.disk other.disk).1 (ap (λ (n : DiskName). n.disk) e)),
)

-- ---- the words of names

-- no name of a tape ends with `~b`
no_tilde : (x : List ℕ) → list_all is_name_octet (x ++ codes "~b") ≡ true → ⊥
no_tilde [] e = cc
no_tilde (octet ∷ x) e = no_tilde x (and_parts (is_name_octet octet) (list_all is_name_octet (x ++ codes "~b")) e).1

last : List ℕ → ℕ
last [] = 0
last (octet ∷ []) = octet
last (octet ∷ other ∷ rest) = last (other ∷ rest)

last_is : (x : List ℕ) → last (x ++ codes "~b") ≡ 98
unfolding last
last_is [] = refl
last_is (octet ∷ []) = refl
last_is (octet ∷ other ∷ x) = last_is (other ∷ x)

intake_ends : last (codes "~intake") ≡ 101
unfolding last
intake_ends = refl

ends_plain : (tape : Option (List ℕ)) (x : List ℕ) → IsNamed tape → tape_word tape ≡ x ++ codes "~b" → ⊥
ends_plain None x named e =
    let never : 101 ≡ 98 = sym intake_ends ∙ ap last e ∙ last_is x in absurd (omega (arith, never))
ends_plain (Some name) x named e =
    no_tilde x (subst (λ (n : List ℕ). list_all is_name_octet n ≡ true) e (name_octets name named))

not_intake : (name : List ℕ) → IsTrue (is_peer_name name) → codes "~intake" ≡ name → ⊥
not_intake name named e =
    let never : list_all is_name_octet (codes "~intake") ≡ true =
    subst (λ (n : List ℕ). list_all is_name_octet n ≡ true) (sym e) (name_octets name named) in
    cc

tape_once : (one other : Option (List ℕ)) → IsNamed one → IsNamed other → tape_word one ≡ tape_word other → one ≡ other
tape_once None None p q e = refl
tape_once None (Some name) p q e = absurd (not_intake name q e)
tape_once (Some name) None p q e = absurd (not_intake name p (sym e))
tape_once (Some one) (Some other) p q e = ap Some e

pub record SameDisk (one other : Option (List ℕ)) (this that : TapeDisk) : Type 0 where
  pub tape : one ≡ other
  pub disk : this ≡ that

word_once : (one other : Option (List ℕ)) (this that : TapeDisk) → IsNamed one → IsNamed other
    → word_of one this ≡ word_of other that → SameDisk one other this that
word_once one other First First p q e = record { tape = tape_once one other p q e; disk = refl }
word_once one other First Second p q e = absurd (ends_plain one (tape_word other) p e)
word_once one other Second First p q e = absurd (ends_plain other (tape_word one) q (sym e))
word_once one other Second Second p q e = record {
  tape = tape_once one other p q (append_cancel_right (tape_word one) (tape_word other) (codes "~b") e);
  disk = refl;
}

-- a word names one disk
pub names_once : (word : List ℕ) (one other : DiskName) → Names word one → Names word other → one ≡ other
names_once word one other p q =
    let same = word_once one.peer other.peer one.disk other.disk p.1 q.1 (sym p.0 ∙ q.0) in
    one_name one other same.tape same.disk

tape_solid : (tape : Option (List ℕ)) → IsNamed tape → IsSolid (tape_word tape)
tape_solid None named = solid_from (codes "~intake") refl
tape_solid (Some name) named = name_solid name named

disk_solid : (tape : Option (List ℕ)) (disk : TapeDisk) → IsNamed tape → IsSolid (word_of tape disk)
disk_solid tape First named = tape_solid tape named
disk_solid tape Second named =
    All-append (λ (octet : ℕ). octet ≢ 32) (tape_word tape) (codes "~b") (tape_solid tape named)
    (solid_from (codes "~b") refl)

-- the word of a disk has no space
pub word_solid : (word : List ℕ) (name : DiskName) → Names word name → IsSolid word
word_solid word name names = subst IsSolid (sym names.0) (disk_solid name.peer name.disk names.1)

-- ---- what is read of a word

-- a word that ends with `~b` names the second disk of the tape before that, or none
pub second_names : (word tape : List ℕ) (name : DiskName) → word ≡ tape ++ codes "~b" → name.disk ≡ Second
    → NamesTape tape name.peer → Names word name
second_names word tape name e disk names = (
  e ∙ ap (λ (t : List ℕ). t ++ codes "~b") names.0 ∙ ap (word_of name.peer) (sym disk),
  names.1,
)

pub second_none : (word tape : List ℕ) → word ≡ tape ++ codes "~b"
    → ((peer : Option (List ℕ)) → NamesTape tape peer → ⊥) → (name : DiskName) → Names word name → ⊥
second_none word tape e none name names = by name.peer name.disk names.0 names.1
  where
    by : (peer : Option (List ℕ)) (disk : TapeDisk) → word ≡ word_of peer disk → IsNamed peer → ⊥
    by peer First is named = ends_plain peer tape named (sym is ∙ e)
    by peer Second is named =
        none peer (append_cancel_right tape (tape_word peer) (codes "~b") (sym e ∙ is), named)

-- any other names the first disk of a tape, or none
pub first_names : (word : List ℕ) (name : DiskName) → name.disk ≡ First → NamesTape word name.peer → Names word name
first_names word name disk names = (names.0 ∙ ap (word_of name.peer) (sym disk), names.1)

pub first_none : (word : List ℕ) → ((tape : List ℕ) → word ≡ tape ++ codes "~b" → ⊥)
    → ((peer : Option (List ℕ)) → NamesTape word peer → ⊥) → (name : DiskName) → Names word name → ⊥
first_none word plain none name names = by name.peer name.disk names.0 names.1
  where
    by : (peer : Option (List ℕ)) (disk : TapeDisk) → word ≡ word_of peer disk → IsNamed peer → ⊥
    by peer First is named = none peer (is, named)
    by peer Second is named = plain (tape_word peer) is

-- what is read of the tape of a word is what is read of the word
pub second_read : {E : Type 0} (word tape : List ℕ) (read : Result (Option DiskName) E) → word ≡ tape ++ codes "~b"
    → IfOk read (λ name. MatchOption name ((peer : Option (List ℕ)) → NamesTape tape peer → ⊥)
    (λ (n : DiskName). (n.disk ≡ Second) × NamesTape tape n.peer))
    → IfOk read (λ name. MatchOption name ((other : DiskName) → Names word other → ⊥) (Names word))
second_read word tape (Err fault) e told = tt
second_read word tape (Ok None) e told = second_none word tape e told
second_read word tape (Ok (Some name)) e told = second_names word tape name e told.0 told.1

pub first_read : {E : Type 0} (word : List ℕ) (read : Result (Option DiskName) E)
    → ((tape : List ℕ) → word ≡ tape ++ codes "~b" → ⊥)
    → IfOk read (λ name. MatchOption name ((peer : Option (List ℕ)) → NamesTape word peer → ⊥)
    (λ (n : DiskName). (n.disk ≡ First) × NamesTape word n.peer))
    → IfOk read (λ name. MatchOption name ((other : DiskName) → Names word other → ⊥) (Names word))
first_read word (Err fault) plain told = tt
first_read word (Ok None) plain told = first_none word plain told
first_read word (Ok (Some name)) plain told = first_names word name told.0 told.1
