-- If each article that was handed in is what was found for its debt, then each that goes out is.
use Rattle.std.proofs.Common.{◌≡◌, ℕ, true, List, [], ◌∷◌, ◌++◌, subst}
use Rattle.ledger_core.specs.State.{Owing}
use Rattle.article_store.specs.declared.store.Found.{Found}
use Rattle.article_store.specs.declared.store.Found.TheVariants.{Article, Gone, Unsendable}
use Rattle.conn_core.specs.Commands.{Ask, Handing, Sendable}
use Rattle.conn_core.specs.History.{Event, Offered, Put, Came, Faulted, Handed, Sent, Tick, Broke, Leave, Taken, asks}
use Rattle.conn_core.specs.Receipt.{IsBlockOf, IsHandedAs}
use Rattle.conn_core.specs.UsedLaws.{All-map}
use Rattle.conn_core.specs.declared.options.Options.{Options}
use Rattle.conn_laws.specs.Articles.{AllHaveArticlesOfDebts, HasArticleOfDebt, IsArticleOfDebt, debt_served}
use Rattle.conn_laws.specs.Articles.{has_article}
use Rattle.connections.specs.Articles.{AllAreFound, AllSendTextsOf, IsHandedFor, SendsTextOf}

module _ (is_found : Owing → Found → Type 0) (options : Options) where
  at-split : (later earlier : List Event) (number : ℕ) (handing : Handing)
      → AllAreFound is_found options (later ++ Handed number handing ∷ earlier)
      → IsHandedFor is_found (debt_served options earlier number) handing
  at-split [] earlier number handing all = all.0
  at-split (Handed other what ∷ later) earlier number handing all = at-split later earlier number handing all.1
  at-split (Offered debt ∷ later) earlier number handing all = at-split later earlier number handing all
  at-split (Put command ∷ later) earlier number handing all = at-split later earlier number handing all
  at-split (Came reply ∷ later) earlier number handing all = at-split later earlier number handing all
  at-split (Faulted fault ∷ later) earlier number handing all = at-split later earlier number handing all
  at-split (Sent count ∷ later) earlier number handing all = at-split later earlier number handing all
  at-split (Tick now ∷ later) earlier number handing all = at-split later earlier number handing all
  at-split (Broke ∷ later) earlier number handing all = at-split later earlier number handing all
  at-split (Leave ∷ later) earlier number handing all = at-split later earlier number handing all
  at-split (Taken ∷ later) earlier number handing all = at-split later earlier number handing all

  -- a block is that of a text
  text-of : (found : Found) (debt : Owing) (block : List ℕ) → is_found debt found → IsHandedAs found (Sendable block)
      → (text : List ℕ) × (is_found debt (Article text) × IsBlockOf text block)
  text-of (Article text) debt block this is = (text, (this, is))
  text-of Gone debt block this is = absurd is
  text-of Unsendable debt block this is = absurd is

  sends : (h : List Event) (ask : Ask) → AllAreFound is_found options h → IsArticleOfDebt options h ask
      → SendsTextOf is_found h ask
  sends h ask all a =
      let here = at-split a.later a.earlier a.number (Sendable ask.block)
      (subst (λ g. AllAreFound is_found options g) a.split all) in
      let f = subst (λ o. IsHandedFor is_found o (Sendable ask.block)) a.served here in
      let t = text-of f.0 a.debt ask.block f.1.0 f.1.1 in
      record { debt = a.debt; text = t.0; own = a.own; named = a.named; found = t.1.0; block = t.1.1 }

  pub all_texts : (h : List Event) → AllAreFound is_found options h → AllHaveArticlesOfDebts options h
      → AllSendTextsOf is_found h
  all_texts h all articles =
      All-map (HasArticleOfDebt options h) (λ (ask : Ask). has_article ask.verb ≡ true → SendsTextOf is_found h ask)
      (λ ask a has. sends h ask all (a has)) (asks h) articles
