-- A name with a text after it is read in only one way: what a `tape` line says, and an `import` line.
use Rattle.std.proofs.Common.{◌≡◌, ℕ, List, ◌∷◌, ◌++◌, Option, None, Some, sym, subst, ◌∙◌}
use Rattle.std.specs.Prelude.{◌↔◌, IsSome, IsTrue, codes}
use Rattle.funnel.specs.Names.{is_peer_name}
use Rattle.drill_script.specs.Action.{Spells}
use Rattle.drill_script.specs.DiskName.{Names}
use Rattle.drill_script.specs.Line.{GivesText, NamesText, SaysTape}
use Rattle.drill_script.specs.Words.{IsCut, IsSolid}
use Rattle.drill_script.specs.declared.disk_name.DiskName.{DiskName}
use Rattle.drill_script.proofs.Cuts.{cuts_once, words_once}
use Rattle.drill_script.proofs.DiskNames.{names_once as disks_once, word_solid}
use Rattle.drill_script.proofs.Peers.{name_solid}

-- which octets a text is a writing of
abbrev Writing : Type 1
Writing = List ℕ → List ℕ → Type 0

pub names_once : (W : Writing) → ((written a b : List ℕ) → W written a → W written b → a ≡ b) →
    (text m n a b : List ℕ) → NamesText W text m a → NamesText W text n b → (m ≡ n) × (a ≡ b)
names_once W once text m n a b p q =
    let cut = words_once m n p.0 q.0 (name_solid m p.2) (name_solid n q.2) (sym p.1 ∙ q.1) in
    (cut.0, once q.0 a b (subst (λ (w : List ℕ). W w a) cut.1 p.3) q.3)

spells_once : (digits a b : List ℕ) → Spells digits a → Spells digits b → a ≡ b
spells_once digits a b p q = cc (p.1, q.1)

pub behind_once : (x y : List ℕ) → codes "tape " ++ x ≡ codes "tape " ++ y → x ≡ y
behind_once x y e = cc

pub record SameGiven (m n : DiskName) (a b : List ℕ) : Type 0 where
  pub name : m ≡ n
  pub octets : a ≡ b

gives_once : (text : List ℕ) (m n : DiskName) (a b : List ℕ) → GivesText text m a → GivesText text n b →
    SameGiven m n a b
gives_once text m n a b p q =
    let cut = words_once p.0 q.0 p.1 q.1 (word_solid p.0 m p.3) (word_solid q.0 n q.3) (sym p.2 ∙ q.2) in
    record {
      name = disks_once q.0 m n (subst (λ (w : List ℕ). Names w m) cut.0 p.3) q.3;
      octets = spells_once q.1 a b (subst (λ (d : List ℕ). Spells d a) cut.1 p.4) q.4;
    }

pub tape_once : (line : List ℕ) (m n : DiskName) (a b : List ℕ) → SaysTape line m a → SaysTape line n b →
    SameGiven m n a b
tape_once line m n a b p q =
    let same = behind_once p.0 q.0 (sym p.1 ∙ q.1) in
    gives_once q.0 m n a b (subst (λ (r : List ℕ). GivesText r m a) same p.2) q.2

-- Octets that are cut at their first space, and do not begin with a name and a space.
module _ (text word : List ℕ) (rest : Option (List ℕ)) (solid : IsSolid word) (cut : IsCut text word rest) where
  -- nothing follows the word
  unspaced : rest ≡ None → (name behind : List ℕ) → text ≡ name ++ 32 ∷ behind → IsSolid name → ⊥
  unspaced none name behind says whole =
      let once = cuts_once text word name rest (Some behind) solid whole cut says in
      let never : None ≡ Some behind = sym none ∙ once.text in
      cc

  pub none_behind : rest ≡ None → (name behind : List ℕ) → text ≡ name ++ 32 ∷ behind → IsTrue (is_peer_name name) → ⊥
  none_behind none name behind says named = unspaced none name behind says (name_solid name named)

  pub none_given : rest ≡ None → (name : DiskName) (octets : List ℕ) → GivesText text name octets → ⊥
  none_given none name octets gives = unspaced none gives.0 gives.1 gives.2 (word_solid gives.0 name gives.3)

  -- the word is no name
  pub none_named : {T : Type 0} (read : Option T) → IsSome read ↔ IsTrue (is_peer_name word) → read ≡ None →
      (name behind : List ℕ) → text ≡ name ++ 32 ∷ behind → IsTrue (is_peer_name name) → ⊥
  none_named None both none name behind says named =
      let once = cuts_once text word name rest (Some behind) solid (name_solid name named) cut says in
      let some = both.1 (subst (λ (n : List ℕ). IsTrue (is_peer_name n)) (sym once.word) named) in
      cc
  none_named (Some t) both none name behind says named = cc

  -- the word names no disk
  pub no_disk : ((name : DiskName) → Names word name → ⊥) → (name : DiskName) (octets : List ℕ) →
      GivesText text name octets → ⊥
  no_disk none name octets gives =
      let once =
      cuts_once text word gives.0 rest (Some gives.1) solid (word_solid gives.0 name gives.3) cut gives.2 in
      none name (subst (λ (w : List ℕ). Names w name) (sym once.word) gives.3)

  -- what follows it spells no octets
  pub no_octets : (digits : List ℕ) → rest ≡ Some digits → ((octets : List ℕ) → Spells digits octets → ⊥) →
      (name : DiskName) (octets : List ℕ) → GivesText text name octets → ⊥
  no_octets digits some none name octets gives =
      let once =
      cuts_once text word gives.0 rest (Some gives.1) solid (word_solid gives.0 name gives.3) cut gives.2 in
      let same : digits ≡ gives.1 = cc (some, once.text) in
      none octets (subst (λ (d : List ℕ). Spells d octets) (sym same) gives.4)

-- A text that is split from its name is a writing of nothing.
pub none_spelt : (W : Writing) (text name written : List ℕ) →
    (text ≡ name ++ 32 ∷ written) × IsTrue (is_peer_name name) → ((spelt : List ℕ) → W written spelt → ⊥) →
    (own octets : List ℕ) → NamesText W text own octets → ⊥
none_spelt W text name written (split, named) none own octets says =
    let same = words_once own name says.0 written (name_solid own says.2) (name_solid name named) (sym says.1 ∙ split)
    in
    none octets (subst (λ (w : List ℕ). W w octets) same.1 says.3)
