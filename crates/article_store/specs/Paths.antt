-- The paths of articles that are files.
use Rattle.std.specs.Prelude.{ℕ, List, string_bytes}
use Rattle.article_store.specs.declared.folder.Folder.{Folder}

-- what each path of a file begins with: the directory's path and a slash
abbrev pub root_of : {F P Q : Type 0} → Folder F P Q → List ℕ
root_of folder = string_bytes folder.root
