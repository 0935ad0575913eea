use Rattle.std.proofs.Common.{rules, ◌≡◌, ◌∙◌, ◌++◌, ◌≤◌, ap, refl, subst, ℕ, List, drop, length, length-take-le, take}
use Rattle.std.proofs.Math.Seq.{take-append_seam}
use Rattle.innd_spool.specs.Buffers.IsTextOf.{with_head}
use Rattle.innd_spool.proofs.buffer_article.find_text.Goals as goal

-- all of the text came with the head
pub returns-clause-text : goal.returns-clause-text
returns-clause-text g c =
    let new : List ℕ = c.keep_text.new.room in
    let came : List ℕ = c.args.came.now in
    let rest : List ℕ = drop (length new) c.make_room.new.room.items in
    let size = c.args.size in
    let same : length new ≡ c.make_room.new.room.len = search rules in
    let whole : take c.make_room.new.room.len (new ++ rest) ≡ new =
    subst (λ n. take n (new ++ rest) ≡ new) same (take-append_seam new rest) in
    let within : size ≤ length came = search rules in
    let text : take (length (take size came)) new ≡ take size came = c.keep_text.ensures.text in
    let kept : take size new ≡ take size came =
    subst (λ n. take n new ≡ take size came) (length-take-le size came within) text in
    with_head size (ap (take size) whole ∙ kept) refl
