-- The texts of a store in memory.
use Rattle.std.specs.Prelude.{ℕ, List, Option}
use Rattle.std.specs.BTreeMap.{get_by}
use Rattle.std.specs.Cmp.Lexicographic.{slice_cmp}
use Rattle.std.specs.Ordering.{nat_cmp}
use Rattle.std.specs.Vec.{vec_items}
use Rattle.article_store.specs.declared.mem.MemArticles.{MemArticles}

-- the text under the token
abbrev pub text_at : MemArticles → List ℕ → Option (List ℕ)
text_at store token = get_by (λ key. slice_cmp nat_cmp token (vec_items key)) store.texts
