-- What looks show, one after the other, of one buffer.
use Rattle.std.proofs.Common.{◌≡◌, ◌∙◌, ap, inl, inr, refl, subst, sym, ℕ, ◌+◌, List, length, Some, take, true}
use Rattle.innd_storage.specs.ArticleHeads.{head_of}
use Rattle.innd_storage.specs.declared.token.CnfsToken.{CnfsToken}
use Rattle.innd_spool.specs.Buffers.{Begins, Contents, IsReadAt, IsTextOf, Shows, ShowsBit, ShowsPlaceOf, size_by}
use Rattle.innd_spool.specs.Buffers.IsTextOf.{by_look, with_head}
use Rattle.innd_spool.specs.declared.buffer_article.Place.{Place}

-- what is shown of one buffer at a moment is shown of it by whatever name the two have
pub moved : (P : Contents → ℕ → Type 0) (first then : Contents) (a b : ℕ) → then ≡ first → b ≡ a → P then b → P first a
moved P first then a b same at holds =
    let Q : Contents → Type 0 = λ has. P has b in
    let R : ℕ → Type 0 = λ moment. P first moment in
    subst R at (subst Q same holds)

-- what the looks showed up to the text, with the contents and the moment before each and after the last
pub record Looked (k0 k1 k2 k3 k4 : Contents) (n0 n1 n2 n3 n4 tick : ℕ) (token : CnfsToken) (place : Place)
    (head came octets : List ℕ) : Type 0 where
  pub header : ShowsPlaceOf k0 n0 token (Some place)
  pub bit : ShowsBit k1 n1 token.block true
  pub head_shown : Shows k2 n2 place.offset head
  pub came_shown : (size : ℕ) → Shows k2 n2 (place.offset + 24) (take size came)
  pub size : size_by place.header place.offset (head_of head) ≡ Some (length octets)
  pub text : IsTextOf k3 n3 tick n4 place.offset came octets
  pub same1 : k1 ≡ k0
  pub same2 : k2 ≡ k1
  pub same3 : k3 ≡ k2
  pub same4 : k4 ≡ k3
  pub at1 : n1 ≡ n0 + tick
  pub at2 : n2 ≡ n1 + tick
  pub at3 : n3 ≡ n2 + tick

-- the text of an article that begins at this place was read at this moment, and the next look comes a tick later
pub record IsRead (k0 k4 : Contents) (n0 n4 tick : ℕ) (token : CnfsToken) (place : Place) (head octets : List ℕ)
    : Type 0 where
  pub read : ℕ
  pub begins : Begins k0 n0 tick token place head (length octets)
  pub is_read : IsReadAt (n0 + tick + tick) tick read
  pub text : Shows k0 read (place.offset + 24) octets
  pub same : k4 ≡ k0
  pub after : n4 ≡ read + tick

by_text : (k0 k2 k3 k4 : Contents) (n0 n2 n3 n4 tick : ℕ) (token : CnfsToken) (place : Place)
    (head came octets : List ℕ) → Begins k0 n0 tick token place head (length octets)
    → ((size : ℕ) → Shows k2 n2 (place.offset + 24) (take size came)) → k2 ≡ k0 → k3 ≡ k0 → k4 ≡ k0
    → n2 ≡ n0 + tick + tick → n3 ≡ n0 + tick + tick + tick
    → IsTextOf k3 n3 tick n4 place.offset came octets → IsRead k0 k4 n0 n4 tick token place head octets
by_text k0 k2 k3 k4 n0 n2 n3 n4 tick token place head came octets begins shown s2 s3 s4 a2 a3 (with_head n is after) =
    let at_place : List ℕ → Contents → ℕ → Type 0 = λ found has moment. Shows has moment (place.offset + 24) found in
    let with : Shows k0 (n0 + tick + tick) (place.offset + 24) (take n came) =
    moved (at_place (take n came)) k0 k2 (n0 + tick + tick) n2 s2 a2 (shown n) in
    let found : List ℕ → Type 0 = λ text. Shows k0 (n0 + tick + tick) (place.offset + 24) text in
    record {
      read = n0 + tick + tick;
      begins = begins;
      is_read = inl refl;
      text = subst found (sym is) with;
      same = s4;
      after = after ∙ a3;
    }
by_text k0 k2 k3 k4 n0 n2 n3 n4 tick token place head came octets begins shown s2 s3 s4 a2 a3 (by_look shows after) =
    record {
      read = n0 + tick + tick + tick;
      begins = begins;
      is_read = inr refl;
      text = moved (λ has moment. Shows has moment (place.offset + 24) octets) k0 k3 (n0 + tick + tick + tick) n3
          s3 a3 shows;
      same = s4;
      after = after ∙ ap (λ n. n + tick) a3;
    }

pub read_by : (k0 k1 k2 k3 k4 : Contents) (n0 n1 n2 n3 n4 tick : ℕ) (token : CnfsToken) (place : Place)
    (head came octets : List ℕ) → Looked k0 k1 k2 k3 k4 n0 n1 n2 n3 n4 tick token place head came octets
    → IsRead k0 k4 n0 n4 tick token place head octets
read_by k0 k1 k2 k3 k4 n0 n1 n2 n3 n4 tick token place head came octets l =
    let more : (a b : ℕ) → a ≡ b → a + tick ≡ b + tick = λ a b e. ap (λ n. n + tick) e in
    let s2 : k2 ≡ k0 = l.same2 ∙ l.same1 in
    let s3 : k3 ≡ k0 = l.same3 ∙ s2 in
    let s4 : k4 ≡ k0 = l.same4 ∙ s3 in
    let a2 : n2 ≡ n0 + tick + tick = l.at2 ∙ more _ _ l.at1 in
    let a3 : n3 ≡ n0 + tick + tick + tick = l.at3 ∙ more _ _ a2 in
    let begins : Begins k0 n0 tick token place head (length octets) =
    record {
      header = l.header;
      bit = moved (λ has moment. ShowsBit has moment token.block true) k0 k1 (n0 + tick) n1 l.same1 l.at1 l.bit;
      head_is = (
        moved (λ has moment. Shows has moment place.offset head) k0 k2 (n0 + tick + tick) n2 s2 a2 l.head_shown,
        l.size,
      );
    }
    in by_text k0 k2 k3 k4 n0 n2 n3 n4 tick token place head came octets begins l.came_shown s2 s3 s4 a2 a3 l.text
