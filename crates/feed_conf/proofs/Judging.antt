-- The values of peers one after another, up to the first whose shares are crossed.
use Rattle.std.proofs.Common.{◌≡◌, ◌+◌, ◌<◌, ◌≤◌, ℕ, true, false, List, [], ◌∷◌, ◌++◌, length, map, take, drop, get_or}
use Rattle.std.proofs.Common.{cond, ltb, Some, ap, ◌∙◌, sym, add-one, drop-cons, suc}
use Rattle.std.specs.List.{find}
use Rattle.std.proofs.lemmas.Bool.{lt-ltb, le-ltb}
use Rattle.std.proofs.lemmas.List.{take_more, map-append}
use Rattle.feed_conf.specs.Reading.{Use}
use Rattle.feed_conf.specs.ReaderView.{declared_view}
use Rattle.feed_conf.specs.Settings.{Settings, settings_of, is_low_above_high}
use Rattle.feed_conf.specs.PeerView.{settings_view}
use Rattle.feed_conf.specs.declared.conf.PeerConf.{PeerConf}
use Rattle.feed_conf.specs.declared.reader.Declared.{Declared as Held}

crossed-is : (uses : List Use) (outer : List ℕ) (peer : Held) (conf : PeerConf)
    → settings_view conf ≡ settings_of uses outer (declared_view peer)
    → ltb conf.check_high conf.check_low ≡ is_low_above_high uses outer (declared_view peer)
crossed-is uses outer peer conf e = ap (λ (s : Settings). ltb s.check_high s.check_low) e

split : (peers : List Held) (i : ℕ) (peer : Held) → i < length peers → peer ≡ get_or peers i peer
    → drop i peers ≡ peer ∷ drop (i + 1) peers
split peers i peer h e = rw add-one (drop-cons peers i peer h ∙ ap (λ z. z ∷ drop (suc i) peers) (sym e))

-- the first peer whose shares are crossed
pub crossed : (uses : List Use) (outer : List ℕ) (peers : List Held) (i : ℕ) (peer : Held) (conf : PeerConf)
    → i < length peers → peer ≡ get_or peers i peer →
    settings_view conf ≡ settings_of uses outer (declared_view peer) → conf.check_high < conf.check_low →
    find (is_low_above_high uses outer) (map declared_view (drop i peers)) ≡ Some (declared_view peer)
crossed uses outer peers i peer conf h e v low =
    let yes : is_low_above_high uses outer (declared_view peer) ≡ true =
    sym (crossed-is uses outer peer conf v) ∙ lt-ltb conf.check_high conf.check_low low in
    ap (λ z. find (is_low_above_high uses outer) (map declared_view z)) (split peers i peer h e)
    ∙ ap (λ b. cond b (Some (declared_view peer))
    (find (is_low_above_high uses outer) (map declared_view (drop (i + 1) peers)))) yes

-- a peer whose shares are not crossed gets its values
pub passed : (uses : List Use) (outer : List ℕ) (peers : List Held) (i : ℕ) (peer : Held) (conf : PeerConf)
    → i < length peers → peer ≡ get_or peers i peer →
    settings_view conf ≡ settings_of uses outer (declared_view peer) → conf.check_low ≤ conf.check_high →
    find (is_low_above_high uses outer) (map declared_view (drop (i + 1) peers)) ≡ find
    (is_low_above_high uses outer) (map declared_view (drop i peers))
passed uses outer peers i peer conf h e v low =
    let no : is_low_above_high uses outer (declared_view peer) ≡ false =
    sym (crossed-is uses outer peer conf v) ∙ le-ltb conf.check_high conf.check_low low in
    sym (ap (λ z. find (is_low_above_high uses outer) (map declared_view z)) (split peers i peer h e)
    ∙ ap (λ b. cond b (Some (declared_view peer))
    (find (is_low_above_high uses outer) (map declared_view (drop (i + 1) peers)))) no)

-- the values with those of one more peer
pub more-confs : (uses : List Use) (outer : List ℕ) (peers : List Held) (i : ℕ) (peer : Held) (conf : PeerConf)
    (confs more : List PeerConf) → i < length peers → peer ≡ get_or peers i peer →
    settings_view conf ≡ settings_of uses outer (declared_view peer) → more ≡ confs ++ conf ∷ [] →
    map settings_view confs ≡ map (settings_of uses outer) (map declared_view (take i peers)) →
    map settings_view more ≡ map (settings_of uses outer) (map declared_view (take (i + 1) peers))
more-confs uses outer peers i peer conf confs more h e v m inv =
    let left : map settings_view more ≡ map settings_view confs ++ settings_view conf ∷ [] =
    ap (map settings_view) m ∙ map-append settings_view confs (conf ∷ []) in
    let one : take (i + 1) peers ≡ take i peers ++ peer ∷ [] =
    take_more peers i peer h ∙ ap (λ z. take i peers ++ z ∷ []) (sym e) in
    let right : map (settings_of uses outer) (map declared_view (take (i + 1) peers)) ≡ map (settings_of uses outer)
    (map declared_view (take i peers)) ++ settings_of uses outer (declared_view peer) ∷ [] =
    ap (λ z. map (settings_of uses outer) (map declared_view z)) one
    ∙ ap (map (settings_of uses outer)) (map-append declared_view (take i peers) (peer ∷ []))
    ∙ map-append (settings_of uses outer) (map declared_view (take i peers)) (declared_view peer ∷ []) in
    left ∙ ap (λ z. z ++ settings_view conf ∷ []) inv
    ∙ ap (λ z. map (settings_of uses outer) (map declared_view (take i peers)) ++ z ∷ []) v ∙ sym right
