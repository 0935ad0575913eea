-- The debt whose article has been wanted longest is the one for which an article of its key is handed in, and what
-- goes out then.
use Rattle.std.proofs.Common.{◌≡◌, ℕ, Bool, true, false, List, [], ◌∷◌, ◌++◌, refl, sym, ap, ◌∙◌, find}
use Rattle.std.proofs.Common.{Option, Some, None, append-nil}
use Rattle.std.specs.Prelude.{◌&&◌, drop, if◌then◌else◌, is_some, is_none, option_map, slice_get}
use Rattle.std.proofs.lemmas.Bool.{eq-eqb}
use Rattle.std.proofs.lemmas.List.{drop-append-le}
use Rattle.std.proofs.lemmas.List.Concat.{flat_map-append}
use Rattle.ledger_core.specs.State.{Owing}
use Rattle.conn_core.specs.Used.{is_empty}
use Rattle.conn_core.specs.Commands.{Ask, Asks, Sendable, Held, Quit, Want, ask_with, held_for, is_at, is_of}
use Rattle.conn_core.specs.Commands.{octets}
use Rattle.conn_core.specs.History.{Event, Put, Handed, accepted, after, ended_tickets, ends, ends_by_loss}
use Rattle.conn_core.specs.History.{first_want, first_wanted, held, held_from, held_wanting, is_leaving}
use Rattle.conn_core.specs.History.{is_mode, is_quit_due, is_streaming, phase, put_octets, put_out}
use Rattle.conn_core.specs.History.{reason, sent, story, wanted}
use Rattle.conn_core.specs.State.{Holding}
use Rattle.conn_core.specs.Stands.{IsWantOfDebt, StandsFor}
use Rattle.conn_core.specs.UsedLaws.{find-left_from}
use Rattle.conn_core.specs.declared.options.Options.{Options}
use Rattle.conn_core.specs.declared.reason.Reason.{Reason}
use Rattle.conn_laws.specs.Articles.{PutsOut, debt_of_want, debt_served, octets_with}
use Rattle.conn_laws.proofs.Numbered.{All-get}
use Rattle.conn_laws.proofs.OfDebts.{own-found}

-- a debt whose article is wanted is held, and the connection is open
opened : (r : Option Reason) (found : Option Owing) (debt : Owing) → (if is_some r then None else found) ≡ Some debt
    → (r ≡ None) × (found ≡ Some debt)
opened None found debt e = (refl, e)
opened (Some why) found debt e = cc

found-held : (w : Want) (hs : List Held) (debt : Owing) (o : Option Held) → find (is_at w.ticket) hs ≡ o
    → option_map (λ (x : Held). x.debt) o ≡ Some debt
    → (x : Held) × ((find (is_at w.ticket) hs ≡ Some x) × (x.debt ≡ debt))
found-held w hs debt None at e = cc
found-held w hs debt (Some x) at e = let same : x.debt ≡ debt = cc in (x, (at, same))

first-held : (want : Option Want) (hs : List Held) (debt : Owing)
    → option_map (λ (x : Held). x.debt) (held_for hs want) ≡ Some debt
    → (w : Want) × ((x : Held) × ((want ≡ Some w) × ((find (is_at w.ticket) hs ≡ Some x) × (x.debt ≡ debt))))
first-held None hs debt e = cc
first-held (Some w) hs debt e =
    let f = found-held w hs debt (find (is_at w.ticket) hs) refl e in (w, (f.0, (refl, f.1)))

-- its want has its key
key-is : (o : Option Held) (x : Held) (key : ℕ) → o ≡ Some x
    → option_map (λ (y : Held). y.debt.0) o ≡ Some key → key ≡ x.debt.0
key-is None x key e q = cc
key-is (Some y) x key e q = cc

-- the first want of all is the first of its key
head-found : (xs : List Want) (w : Want) (key : ℕ) → slice_get xs 0 ≡ Some w → w.key ≡ key → find (is_of key) xs
    ≡ Some w
head-found [] w key e same = cc
head-found (y ∷ ys) w key e same =
    let here : y ≡ w = cc in
    let is : y.key ≡ key = ap (λ (z : Want). z.key) here ∙ same in
    rw (eq-eqb y.key key is) e

with-want : (o : Option (ℕ × Want)) (w : Want) → option_map (λ (x : ℕ × Want). x.1) o ≡ Some w
    → (want : ℕ × Want) × ((o ≡ Some want) × (want.1 ≡ w))
with-want None w e = cc
with-want (Some want) w e = let same : want.1 ≡ w = cc in (want, (refl, same))

-- What is known of the debt whose article has been wanted longest: its want, and that it is held.
pub record IsFirst (options : Options) (h : List Event) (debt : Owing) : Type 0 where
  pub running : reason options h ≡ None
  pub want : ℕ × Want
  pub first : first_want (story options h) debt.0 ≡ Some want
  pub x : Held
  pub at : find (is_at want.1.ticket) (held options h) ≡ Some x
  pub debt_is : x.debt ≡ debt

pub first-of : (options : Options) (conn : Holding) (unread : List ℕ) (h : List Event) (debt : Owing)
    → StandsFor options conn unread h → first_wanted options h ≡ Some debt → IsFirst options h debt
unfolding StandsFor
first-of options conn unread h debt s e =
    let running = opened (reason options h) _ debt e in
    let m = s.2.while_open running.0 in
    let f = first-held (slice_get (wanted options h) 0) (held options h) debt running.1 in
    let w = f.0 in
    let x = f.1.0 in
    let there : slice_get conn.state.wanted 0 ≡ Some w = rw m.wanted_is f.1.1.0 in
    let key = All-get (IsWantOfDebt conn.state.held) conn.state.wanted 0 w m.tied.numbered there in
    let held_there : find (is_at w.ticket) conn.state.held ≡ Some x = rw m.held_is f.1.1.1.0 in
    let same : w.key ≡ debt.0 = key-is (find (is_at w.ticket) conn.state.held) x w.key held_there key
    ∙ ap (λ (d : Owing). d.0) f.1.1.1.1 in
    let found = head-found (wanted options h) w debt.0 f.1.1.0 same in
    let g = with-want (first_want (story options h) debt.0) w
    (sym (find-left_from (is_of debt.0) (story options h).handed 0 (story options h).wants) ∙ found) in
    record {
      running = running.0;
      want = g.0;
      first = g.1.0;
      x = x;
      at = ap (λ (v : Want). find (is_at v.ticket) (held options h)) g.1.1 ∙ f.1.1.1.0;
      debt_is = f.1.1.1.1;
    }

pub first_served : (options : Options) (h : List Event) (debt : Owing) → IsFirst options h debt
    → debt_served options h debt.0 ≡ Some debt
first_served options h debt f =
    ap (λ w. debt_of_want h w) f.first ∙ own-found options h f.want.1.ticket f.x f.at ∙ ap Some f.debt_is

-- what goes out with the block

some-held : (hs : List Held) (ticket : ℕ) (x : Held) → find (is_at ticket) hs ≡ Some x → is_empty hs ≡ false
some-held [] ticket x e = cc
some-held (y ∷ hs) ticket x e = refl

third-false : (a b c d : Bool) → c ≡ false → (a && (b && (c && d))) ≡ false
third-false true true c d e = rw e refl
third-false true false c d e = refl
third-false false b c d e = refl

-- a block ends no debt
no-loss : (block : List ℕ) (o : Option Held) → ends_by_loss (Sendable block) o ≡ []
no-loss block None = refl
no-loss block (Some x) = refl

held-put : (options : Options) (h : List Event) (number : ℕ) (block : List ℕ) (ask : Ask)
    → held options (Put (Asks ask) ∷ Handed number (Sendable block) ∷ h) ≡ held options h
unfolding story
held-put options h number block ask =
    let none : ends options h ++ ends_by_loss (Sendable block) (held_wanting h (story options h) number)
    ≡ ends options h =
    ap (λ more. ends options h ++ more) (no-loss block (held_wanting h (story options h) number))
    ∙ append-nil (ends options h) in
    ap (λ es. held_from 0 (accepted h) (ended_tickets es)) none

octets-with : (streaming : Bool) (x : Held) (block : List ℕ)
    → octets (Asks (ask_with streaming x block)) ≡ octets_with streaming x.debt.1.1 block
octets-with true x block = refl
octets-with false x block = refl

if-not : {A : Type 0} (b : Bool) (x y : A) → b ≡ false → (if b then x else y) ≡ y
if-not true x y e = cc
if-not false x y e = refl

after-block : (options : Options) (h : List Event) (debt : Owing) (block : List ℕ) (f : IsFirst options h debt)
    → after options h (Handed debt.0 (Sendable block))
    ≡ Put (Asks (ask_with (is_streaming (phase options h)) f.x block)) ∷ Handed debt.0 (Sendable block) ∷ h
unfolding after
after-block options h debt block f =
    let ask : Ask = ask_with (is_streaming (phase options h)) f.x block in
    let g : List Event = Put (Asks ask) ∷ Handed debt.0 (Sendable block) ∷ h in
    let wanting : held_wanting h (story options h) debt.0 ≡ Some f.x =
    ap (λ (o : Option (ℕ × Want)). held_for (held options h) (option_map (λ (w : ℕ × Want). w.1) o)) f.first ∙ f.at in
    let some : is_empty (held options g) ≡ false =
    ap is_empty (held-put options h debt.0 block ask) ∙ some-held (held options h) f.want.1.ticket f.x f.at in
    let late : is_quit_due options g ≡ false =
    third-false (is_leaving g) (is_mode (phase options g)) (is_empty (held options g)) (is_none (reason options g))
    some in
    rw wanting (if-not (is_quit_due options g) (Put Quit ∷ g) g late)

pub block_put : (options : Options) (conn : Holding) (unread : List ℕ) (h : List Event) (debt : Owing) (block : List ℕ)
    → StandsFor options conn unread h → IsFirst options h debt → PutsOut options h debt block
unfolding StandsFor
block_put options conn unread h debt block s f =
    let ask : Ask = ask_with (is_streaming (phase options h)) f.x block in
    let few = (s.2.while_open f.running).sent_few in
    let longer : put_octets (Put (Asks ask) ∷ Handed debt.0 (Sendable block) ∷ h) ≡ put_octets h ++ octets (Asks ask) =
    flat_map-append octets (put_out h) (Asks ask ∷ [])
    ∙ ap (λ xs. put_octets h ++ xs) (append-nil (octets (Asks ask))) in
    let new : drop (sent h) (put_octets (Put (Asks ask) ∷ Handed debt.0 (Sendable block) ∷ h))
    ≡ drop (sent h) (put_octets h) ++ octets (Asks ask) =
    ap (λ xs. drop (sent h) xs) longer ∙ drop-append-le (sent h) (put_octets h) (octets (Asks ask)) few in
    let named : octets (Asks ask) ≡ octets_with (is_streaming (phase options h)) debt.1.1 block =
    octets-with (is_streaming (phase options h)) f.x block
    ∙ ap (λ (d : Owing). octets_with (is_streaming (phase options h)) d.1.1 block) f.debt_is in
    rw (after-block options h debt block f, f.running) (new ∙ ap (λ xs. drop (sent h) (put_octets h) ++ xs) named)
