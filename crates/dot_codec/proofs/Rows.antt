-- The definitions, computed on small texts and blocks.
use Rattle.std.proofs.Common.{◌≡◌, ℕ, List, [], ◌∷◌, length, refl, inl, inr, lit<}
use Rattle.dot_codec.specs.Lines.{HasLines, text_of}
use Rattle.dot_codec.specs.Block.{IsReadForm, written}
use Rattle.dot_codec.specs.Fault.{HasBlockFault}
use Rattle.dot_codec.specs.declared.fault.BlockFault.TheVariants.{Unfinished, BareCr, BareLf, Nul}
use Rattle.dot_codec.proofs.Runs.{no_line_at_cr, no_line_at_nul}

-- ".\n..a\nb"
abbrev dots : List (List ℕ)
dots = (46 ∷ []) ∷ (46 ∷ 46 ∷ 97 ∷ []) ∷ (98 ∷ []) ∷ []

dots_lines : HasLines (46 ∷ 10 ∷ 46 ∷ 46 ∷ 97 ∷ 10 ∷ 98 ∷ []) dots
dots_lines = (46 ∷ 46 ∷ 97 ∷ 10 ∷ 98 ∷ [], (refl, inr (inl refl)), (98 ∷ [], (refl, inr (inl refl)), ([], (refl, inl (refl, refl, lit< tt)), refl)))

dots_written : written dots ≡ 46 ∷ 46 ∷ 13 ∷ 10 ∷ 46 ∷ 46 ∷ 46 ∷ 97 ∷ 13 ∷ 10 ∷ 98 ∷ 13 ∷ 10 ∷ 46 ∷ 13 ∷ 10 ∷ []
dots_written = refl

dots_long : length (written dots) ≡ 16
dots_long = refl

-- "\n": one line, which is empty
empty_line : HasLines (10 ∷ []) ([] ∷ [])
empty_line = ([], (refl, inr (inl refl)), refl)

empty_line_written : written ([] ∷ []) ≡ 13 ∷ 10 ∷ 46 ∷ 13 ∷ 10 ∷ []
empty_line_written = refl

-- "a\r\nb": the CR belongs to the end
crlf_lines : HasLines (97 ∷ 13 ∷ 10 ∷ 98 ∷ []) ((97 ∷ []) ∷ (98 ∷ []) ∷ [])
crlf_lines = (98 ∷ [], (refl, inr (inr refl)), ([], (refl, inl (refl, refl, lit< tt)), refl))

crlf_written : written ((97 ∷ []) ∷ (98 ∷ []) ∷ []) ≡ 97 ∷ 13 ∷ 10 ∷ 98 ∷ 13 ∷ 10 ∷ 46 ∷ 13 ∷ 10 ∷ []
crlf_written = refl

-- "a\0", "a\r" and "a\r\r\n" have no lines
nul_has_none : (lines : List (List ℕ)) → HasLines (97 ∷ 0 ∷ []) lines → ⊥
nul_has_none lines has = absurd (let none : ◌≡◌ {A = List ℕ} (97 ∷ 0 ∷ []) [] = no_line_at_nul (97 ∷ 0 ∷ []) (97 ∷ []) [] (0 ∷ [], refl, refl, refl) lines has in cc)

cr_has_none : (lines : List (List ℕ)) → HasLines (97 ∷ 13 ∷ []) lines → ⊥
cr_has_none lines has = absurd (let none : ◌≡◌ {A = List ℕ} (97 ∷ 13 ∷ []) [] = no_line_at_cr (97 ∷ 13 ∷ []) (97 ∷ []) [] (13 ∷ [], refl, refl, (refl, λ behind e. cc)) lines has in cc)

two_crs_have_none : (lines : List (List ℕ)) → HasLines (97 ∷ 13 ∷ 13 ∷ 10 ∷ []) lines → ⊥
two_crs_have_none lines has = absurd (let none : ◌≡◌ {A = List ℕ} (97 ∷ 13 ∷ 13 ∷ 10 ∷ []) [] = no_line_at_cr (97 ∷ 13 ∷ 13 ∷ 10 ∷ []) (97 ∷ []) (13 ∷ 10 ∷ []) (13 ∷ 13 ∷ 10 ∷ [], refl, refl, (refl, λ behind e. cc)) lines has in cc)

-- "..\r\n.\r\n", ".\r\n" and ".a\r\n.\r\n"
dot_read : IsReadForm ((46 ∷ []) ∷ []) (46 ∷ 46 ∷ 13 ∷ 10 ∷ 46 ∷ 13 ∷ 10 ∷ [])
dot_read = (46 ∷ 46 ∷ [], 46 ∷ 13 ∷ 10 ∷ [], refl, refl, inr (refl, lit< tt), refl)

dot_text : text_of ((46 ∷ []) ∷ []) ≡ 46 ∷ 10 ∷ []
dot_text = refl

nothing_read : IsReadForm [] (46 ∷ 13 ∷ 10 ∷ [])
nothing_read = refl

more_dots_read : IsReadForm ((97 ∷ []) ∷ []) (46 ∷ 97 ∷ 13 ∷ 10 ∷ 46 ∷ 13 ∷ 10 ∷ [])
more_dots_read = (46 ∷ 97 ∷ [], 46 ∷ 13 ∷ 10 ∷ [], refl, refl, inr (refl, lit< tt), refl)

-- "a\r\n", "a\nb", "a\rb", "a\r", "a\0" and nothing
no_end : HasBlockFault (97 ∷ 13 ∷ 10 ∷ []) Unfinished
no_end = ((97 ∷ []) ∷ [], [], (97 ∷ [], [], refl, refl, inl (refl, refl), refl), ([], [], refl, refl, inl refl))

bare_lf : HasBlockFault (97 ∷ 10 ∷ 98 ∷ []) BareLf
bare_lf = ([], 97 ∷ 10 ∷ 98 ∷ [], refl, (97 ∷ [], 10 ∷ 98 ∷ [], refl, refl, (98 ∷ [], refl)))

bare_cr : HasBlockFault (97 ∷ 13 ∷ 98 ∷ []) BareCr
bare_cr = ([], 97 ∷ 13 ∷ 98 ∷ [], refl, (97 ∷ [], 13 ∷ 98 ∷ [], refl, refl, (98, [], refl, λ e. cc)))

half_end : HasBlockFault (97 ∷ 13 ∷ []) Unfinished
half_end = ([], 97 ∷ 13 ∷ [], refl, (97 ∷ [], 13 ∷ [], refl, refl, inr refl))

nul_in_line : HasBlockFault (97 ∷ 0 ∷ []) Nul
nul_in_line = ([], 97 ∷ 0 ∷ [], refl, (97 ∷ [], 0 ∷ [], refl, refl, ([], refl)))

nothing_there : HasBlockFault [] Unfinished
nothing_there = ([], [], refl, ([], [], refl, refl, inl refl))
