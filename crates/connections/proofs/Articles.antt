-- Which articles are handed in.
use Rattle.std.proofs.Common.{◌≡◌, ℕ, Bool, true, false, List, [], ◌∷◌, ◌++◌, refl, sym, subst, Some}
use Rattle.std.proofs.Common.{◌⊎◌, inl, inr}
use Rattle.std.specs.Prelude.{if◌then◌else◌, is_some}
use Rattle.std.specs.List.{AllByRecursion}
use Rattle.ledger_core.specs.State.{Owing}
use Rattle.article_store.specs.declared.store.Found.{Found}
use Rattle.conn_core.specs.Commands.{Command, Handing, Quit}
use Rattle.conn_core.specs.History.{Event, Offered, Put, Came, Faulted, Handed, Sent, Tick, Broke, Leave, Taken, after}
use Rattle.conn_core.specs.History.{is_quit_due, outside, puts, reason, with_puts}
use Rattle.conn_core.specs.Receipt.{IsHandedAs}
use Rattle.conn_core.specs.Stands.{StandsFor}
use Rattle.conn_core.specs.State.{Holding}
use Rattle.conn_core.specs.declared.options.Options.{Options}
use Rattle.conn_laws.specs.Articles.{debt_served}
use Rattle.connections.specs.Articles.{AllAreFound, AllStayFound, GoesOn, HandsInNothing, IsHandedFor}
use Rattle.connections.specs.Articles.{IsNoArticle, MayHandIn}

-- what an event puts out hands in no article

-- these events, newest first, follow the transcript, and none hands in an article
abbrev pub Follows : List Event → List Event → Type 0
Follows h later = (since : List Event) × ((later ≡ since ++ h) × AllByRecursion IsNoArticle since)

follows-puts : (commands : List Command) (since h : List Event) → AllByRecursion IsNoArticle since
    → Follows h (with_puts commands (since ++ h))
follows-puts [] since h all = (since, (refl, all))
follows-puts (command ∷ commands) since h all = follows-puts commands (Put command ∷ since) h (tt, all)

follows-quit : (b : Bool) (h g : List Event) → Follows h g → Follows h (if b then Put Quit ∷ g else g)
follows-quit true h g f = (Put Quit ∷ f.0, (cc, (tt, f.1.1)))
follows-quit false h g f = f

pub follows-after : (options : Options) (h : List Event) (e : Event) → IsNoArticle e → Follows h (after options h e)
unfolding after
follows-after options h e none =
    follows-quit (is_quit_due options (with_puts (puts options h e) (e ∷ h))) h (with_puts (puts options h e) (e ∷ h))
    (follows-puts (puts options h e) (e ∷ []) h (none, tt))

pub follows-outside : (options : Options) (h : List Event) (e : Event) → IsNoArticle e → Follows h (outside options h e)
follows-outside options h e none = either (is_some (reason options h))
  where
    either : (b : Bool) → Follows h (if b then h else after options h e)
    either true = ([], (refl, tt))
    either false = follows-after options h e none

-- a connection that stands for what follows goes on
pub goes_on : (options : Options) (h later : List Event) (left : List ℕ) (new : Holding)
    → StandsFor options new left later
    → Follows h later → GoesOn options h new
goes_on options h later left new s f = (left, (f.0, (subst (λ g. StandsFor options new left g) f.1.0 s, f.1.1)))

-- a connection that breaks hands in nothing
pub breaks : (old new : Holding)
    → ((options : Options) (unread : List ℕ) (h : List Event) → StandsFor options old unread h
    → StandsFor options new [] (outside options h Broke)) → HandsInNothing old new
breaks old new broken = λ options unread h s.
    goes_on options h (outside options h Broke) [] new (broken options unread h s) (follows-outside options h Broke tt)

-- what was found stays so

module _ (is_found : Owing → Found → Type 0) (options : Options) where
  pub found-follows : (since h : List Event) → AllByRecursion IsNoArticle since → AllAreFound is_found options h
      → AllAreFound is_found options (since ++ h)
  found-follows [] h none all = all
  found-follows (Handed number handing ∷ since) h none all = absurd none.0
  found-follows (Offered debt ∷ since) h none all = found-follows since h none.1 all
  found-follows (Put command ∷ since) h none all = found-follows since h none.1 all
  found-follows (Came reply ∷ since) h none all = found-follows since h none.1 all
  found-follows (Faulted fault ∷ since) h none all = found-follows since h none.1 all
  found-follows (Sent count ∷ since) h none all = found-follows since h none.1 all
  found-follows (Tick now ∷ since) h none all = found-follows since h none.1 all
  found-follows (Broke ∷ since) h none all = found-follows since h none.1 all
  found-follows (Leave ∷ since) h none all = found-follows since h none.1 all
  found-follows (Taken ∷ since) h none all = found-follows since h none.1 all

  found-puts : (commands : List Command) (g : List Event) → AllAreFound is_found options g
      → AllAreFound is_found options (with_puts commands g)
  found-puts [] g all = all
  found-puts (command ∷ commands) g all = found-puts commands (Put command ∷ g) all

  found-quit : (b : Bool) (g : List Event) → AllAreFound is_found options g
      → AllAreFound is_found options (if b then Put Quit ∷ g else g)
  found-quit true g all = all
  found-quit false g all = all

  pub found-handed : (h : List Event) (number : ℕ) (handing : Handing) → AllAreFound is_found options h
      → IsHandedFor is_found (debt_served options h number) handing
      → AllAreFound is_found options (after options h (Handed number handing))
  unfolding after
  found-handed h number handing all this =
      let commands = puts options h (Handed number handing) in
      let g = with_puts commands (Handed number handing ∷ h) in
      found-quit (is_quit_due options g) g (found-puts commands (Handed number handing ∷ h) (this, all))

  -- and of a connection that goes on
  pub found-on : (h : List Event) (new : Holding) → AllAreFound is_found options h → GoesOn options h new
      → (left : List ℕ)
      × ((later : List Event) × (StandsFor options new left later × AllAreFound is_found options later))
  found-on h new all g = (g.0, (g.1.0 ++ h, (g.1.1.0, found-follows g.1.0 h g.1.1.1 all)))

pub nothing_stays : (is_found : Owing → Found → Type 0) (old new : Holding) → HandsInNothing old new
    → AllStayFound is_found old new
nothing_stays is_found old new on =
    λ options unread h s all. found-on is_found options h new all (on options unread h s)

pub same_stays : (is_found : Owing → Found → Type 0) (old : Holding) → AllStayFound is_found old old
same_stays is_found old = λ options unread h s all. (unread, (h, (s, all)))

pub stays_on : (is_found : Owing → Found → Type 0) (old mid new : Holding) → AllStayFound is_found old mid
    → AllStayFound is_found mid new → AllStayFound is_found old new
stays_on is_found old mid new first second = λ options unread h s all.
    let f = first options unread h s all in second options f.0 f.1.0 f.1.1.0 f.1.1.1

-- what was found for a debt is handed in with the key for which that debt is served
pub handed_stays : (is_found : Owing → Found → Type 0) (old mid new : Holding) (debt : Owing) (found : Found) (key : ℕ)
    → ((options : Options) (unread : List ℕ) (h : List Event) → StandsFor options old unread h
    → debt_served options h debt.0 ≡ Some debt)
    → is_found debt found → key ≡ debt.0 → mid ≡ old → MayHandIn key found mid new → AllStayFound is_found old new
handed_stays is_found old mid new debt found key served is key-is mid-is may = λ options unread h s all.
    let there : StandsFor options mid unread h = rw mid-is s in
    let serves : debt_served options h key ≡ Some debt = rw key-is (served options unread h s) in
    either options unread h serves all (may options unread h there)
  where
    either : (options : Options) (unread : List ℕ) (h : List Event) → debt_served options h key ≡ Some debt
        → AllAreFound is_found options h
        → ((handing : Handing)
        × (IsHandedAs found handing × StandsFor options new unread (after options h (Handed key handing))))
        ⊎ GoesOn options h new
        → (left : List ℕ)
        × ((later : List Event) × (StandsFor options new left later × AllAreFound is_found options later))
    either options unread h serves all (inl m) =
        let this = subst (λ o. IsHandedFor is_found o m.0) (sym serves) (found, (is, m.1.0)) in
        (unread, (after options h (Handed key m.0), (m.1.1, found-handed is_found options h key m.0 all this)))
    either options unread h serves all (inr on) = found-on is_found options h new all on
