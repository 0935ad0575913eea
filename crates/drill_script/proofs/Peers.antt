-- A `peer` line declares only one thing.
use Rattle.std.proofs.Common.{◌≡◌, ◌≢◌, ℕ, true, List, [], ◌∷◌, ◌++◌, map, Option, None, Some, Result, Ok, Err}
use Rattle.std.proofs.Common.{MatchOption, inl, inr, refl, sym, subst, ap, ◌∙◌, arith}
use Rattle.std.specs.Prelude.{IsTrue, codes, unwrap_or}
use Rattle.std.specs.List.{list_all}
use Rattle.std.proofs.lemmas.Bool.{and_from, and_parts}
use Rattle.std.proofs.lemmas.Bool.Decides.{nat_tests}
use Rattle.feed_conf.specs.PeerView.{settings_view}
use Rattle.feed_conf.specs.Reading.{HaveLexemes, lines_of}
use Rattle.feed_conf.specs.Settings.{Outcome, Settings, meaning}
use Rattle.feed_conf.specs.Lexemes.{Lexeme, HasLexemes}
use Rattle.feed_conf.specs.declared.conf.PeerConf.{PeerConf}
use Rattle.feed_conf.specs.declared.fault.ConfFault.{ConfFault}
use Rattle.feed_conf.specs.LexemeLaws.{lexemes-are}
use Rattle.funnel.specs.Names.{is_name_octet, is_peer_name}
use Rattle.drill_script.specs.Peer.{HasOnly, IsNamedWith, SaysPeer, peer_text}
use Rattle.drill_script.specs.Words.{IsCut, IsSolid}
use Rattle.drill_script.proofs.Cuts.{cuts_once, is_solid, solid_from}

-- the name of a peer has no space
octet_solid : (octet : ℕ) → is_name_octet octet ≡ true → is_solid octet ≡ true
octet_solid octet pass = grind (arith, nat_tests)

octets_solid : (octets : List ℕ) → list_all is_name_octet octets ≡ true → list_all is_solid octets ≡ true
octets_solid [] pass = refl
octets_solid (octet ∷ octets) pass =
    let parts = and_parts (is_name_octet octet) (list_all is_name_octet octets) pass in
    and_from (is_solid octet) (list_all is_solid octets) (octet_solid octet parts.0) (octets_solid octets parts.1)

pub name_octets : (octets : List ℕ) → IsTrue (is_peer_name octets) → list_all is_name_octet octets ≡ true
name_octets octets named = grind (arith, nat_tests)

pub name_solid : (name : List ℕ) → IsTrue (is_peer_name name) → IsSolid name
name_solid name named = solid_from name (octets_solid name (name_octets name named))

-- a name with items or without is a cut
pub cut_named : (declaration name : List ℕ) (text : Option (List ℕ)) → IsCut declaration name text →
    IsNamedWith declaration name (unwrap_or text [])
cut_named declaration name None cut = inl (cut, refl)
cut_named declaration name (Some items) cut = inr cut

-- a cut, and the items after it
record NamedCut (declaration name items : List ℕ) : Type 0 where
  text : Option (List ℕ)
  cut : IsCut declaration name text
  are : items ≡ unwrap_or text []

named_cut : (declaration name items : List ℕ) → IsNamedWith declaration name items → NamedCut declaration name items
named_cut declaration name items (inl alone) = record { text = None; cut = alone.0; are = alone.1 }
named_cut declaration name items (inr behind) = record { text = Some items; cut = behind; are = refl }

-- a declaration has one name and one list of items
pub record SameParts (m n i j : List ℕ) : Type 0 where
  pub name : m ≡ n
  pub items : i ≡ j

pub parts_once : (declaration m n i j : List ℕ) → IsSolid m → IsSolid n → IsNamedWith declaration m i →
    IsNamedWith declaration n j → SameParts m n i j
parts_once declaration m n i j p q a b =
    let one = named_cut declaration m i a in
    let other = named_cut declaration n j b in
    let cut = cuts_once declaration m n one.text other.text p q one.cut other.cut in
    record {
      name = cut.word;
      items = one.are ∙ ap (λ (t : Option (List ℕ)). unwrap_or t []) cut.text
          ∙ sym other.are;
    }

-- what stands after the word
pub behind_once : (x y : List ℕ) → codes "peer " ++ x ≡ codes "peer " ++ y → x ≡ y
behind_once x y e = cc

-- a line has one list of lexemes
line_lexemes : (line : List ℕ) (one other : List Lexeme) → HasLexemes line one → HasLexemes line other → one ≡ other
line_lexemes line one other p q = sym (lexemes-are line one p) ∙ lexemes-are line other q

lexemes_same : (lines : List (List ℕ)) (one other : List (List Lexeme)) → HaveLexemes lines one →
    HaveLexemes lines other → one ≡ other
lexemes_same [] [] [] p q = refl
lexemes_same [] [] (t ∷ other) p q = absurd q
lexemes_same [] (t ∷ one) other p q = absurd p
lexemes_same (line ∷ lines) [] other p q = absurd p
lexemes_same (line ∷ lines) (t ∷ one) [] p q = absurd q
lexemes_same (line ∷ lines) (t ∷ one) (u ∷ other) p q =
    ap (λ (x : List Lexeme). x ∷ one) (line_lexemes line t u p.0 q.0)
    ∙ ap (λ (x : List (List Lexeme)). u ∷ x) (lexemes_same lines one other p.1 q.1)

ok_once : (one other : Outcome) → let made : Outcome → Result Outcome ConfFault =
    λ o. Ok o in made one ≡ made other → one ≡ other
ok_once one other e = cc

head_once : (one other : Settings) → one ∷ [] ≡ other ∷ [] → one ≡ other
head_once one other e = cc

-- a text of settings has its only peer in one way
only_once : (text : List ℕ) (one other : Settings) → HasOnly text one → HasOnly text other → one ≡ other
only_once text one other p q =
    let lexemes = lexemes_same (lines_of text) p.lexemes q.lexemes p.have q.have in
    let outcome : p.outcome ≡ q.outcome = ok_once p.outcome q.outcome (sym p.means ∙ ap meaning lexemes ∙ q.means) in
    let peers : one ∷ [] ≡ other ∷ [] = sym p.only ∙ ap (λ (o : Outcome). o.peers) outcome ∙ q.only in
    head_once one other peers

pub peer_once : (line : List ℕ) (one other : Settings) → SaysPeer line one → SaysPeer line other → one ≡ other
peer_once line one other p q =
    let behind : p.declaration ≡ q.declaration =
    behind_once p.declaration q.declaration (sym p.written ∙ q.written) in
    let moved : IsNamedWith q.declaration one.name p.items =
    subst (λ (d : List ℕ). IsNamedWith d one.name p.items) behind p.parts in
    let parts = parts_once q.declaration one.name other.name p.items q.items (name_solid one.name p.named)
    (name_solid other.name q.named) moved q.parts in
    let text : peer_text one.name p.items ≡ peer_text other.name q.items =
    ap (λ (n : List ℕ). peer_text n p.items) parts.name ∙ ap (peer_text other.name) parts.items in
    only_once (peer_text other.name q.items) one other (subst (λ (t : List ℕ). HasOnly t one) text p.has) q.has

-- the values of an only peer come from an only peer
alone : (name : List ℕ) (peer : Settings) (peers : List PeerConf) → map settings_view peers ≡ peer ∷ [] →
    peer.name ≡ name →
    ((conf : PeerConf) → peers ≡ conf ∷ [] → conf.name ≢ name) → ⊥
alone name peer [] e n none = cc
alone name peer (conf ∷ []) e n none =
    let same : settings_view conf ≡ peer = cc in
    none conf refl (ap (λ (s : Settings). s.name) same ∙ n)
alone name peer (conf ∷ other ∷ rest) e n none = cc

-- What was read of the text of a declaration with this cut.
module _ (declaration name items : List ℕ) (solid : IsSolid name) (parts : IsNamedWith declaration name items) where
  -- whichever peer the line says, its text is this one
  text_is : (peer : Settings) → (p : SaysPeer (codes "peer " ++ declaration) peer) →
      SameParts peer.name name p.items items
  text_is peer p =
      let behind : declaration ≡ p.declaration = behind_once declaration p.declaration p.written in
      let moved : IsNamedWith p.declaration name items =
      subst (λ (d : List ℕ). IsNamedWith d name items) behind parts in
      parts_once p.declaration peer.name name p.items items (name_solid peer.name p.named) solid p.parts moved

  said_text : (peer : Settings) → SaysPeer (codes "peer " ++ declaration) peer → HasOnly (peer_text name items) peer
  said_text peer p =
      let same = text_is peer p in
      let text : peer_text peer.name p.items ≡ peer_text name items =
      ap (λ (n : List ℕ). peer_text n p.items) same.name ∙ ap (peer_text name) same.items in
      subst (λ (t : List ℕ). HasOnly t peer) text p.has

  -- a text with a fault declares none
  pub says_none : (fault : ConfFault) →
      ((lines : List (List Lexeme)) → HaveLexemes (lines_of (peer_text name items)) lines → meaning lines ≡ Err fault) →
      (peer : Settings) → SaysPeer (codes "peer " ++ declaration) peer → ⊥
  says_none fault means peer p =
      let has = said_text peer p in
      let never : Err fault ≡ Ok has.outcome = sym (means has.lexemes has.have) ∙ has.means in
      cc

  -- a text without a fault declares the peer that it has alone, if that is of this name
  pub says_found : (outcome : Outcome) (peers : List PeerConf) (found : Option PeerConf) →
      ((lines : List (List Lexeme)) → HaveLexemes (lines_of (peer_text name items)) lines →
      meaning lines ≡ Ok outcome) →
      (lines : List (List Lexeme)) → HaveLexemes (lines_of (peer_text name items)) lines →
      map settings_view peers ≡ outcome.peers →
      MatchOption found ((conf : PeerConf) → peers ≡ conf ∷ [] → conf.name ≢ name)
      (λ conf. (peers ≡ conf ∷ []) × (conf.name ≡ name) × IsTrue (is_peer_name name)) →
      MatchOption found ((peer : Settings) → SaysPeer (codes "peer " ++ declaration) peer → ⊥)
      (λ conf. SaysPeer (codes "peer " ++ declaration) (settings_view conf))
  says_found outcome peers None means lines have views none = λ peer p.
      let has = said_text peer p in
      let same : outcome ≡ has.outcome = ok_once outcome has.outcome (sym (means has.lexemes has.have) ∙ has.means) in
      alone name peer peers (views ∙ ap (λ (o : Outcome). o.peers) same ∙ has.only) (text_is peer p).name none
  says_found outcome peers (Some conf) means lines have views is = record {
    declaration = declaration;
    items = items;
    written = refl;
    parts = subst (λ (n : List ℕ). IsNamedWith declaration n items) (sym is.1) parts;
    named = subst (λ (n : List ℕ). IsTrue (is_peer_name n)) (sym is.1) is.2;
    has = subst (λ (n : List ℕ). HasOnly (peer_text n items) (settings_view conf)) (sym is.1)
        (record {
          lexemes = lines;
          have = have;
          outcome = outcome;
          means = means lines have;
          only =
              sym views ∙ ap (map settings_view) is.0;
        });
  }
