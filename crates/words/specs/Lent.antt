-- How registers and mailboxes lie in memory: the cells in one list, the tags as bytes in another. Assumes nothing.
use Rattle.std.specs.Prelude.{ℕ, ◌+◌, ◌*◌, Bool, ◌&&◌, List, [], ◌∷◌, map, leb}
use Rattle.capabilities.specs.declared.Range.{Range}
use Rattle.capabilities.specs.Death.{dies}
use Rattle.capabilities.specs.Lists.{pick}
use Rattle.words.specs.declared.Slot.{Slot}
use Rattle.words.specs.Words.{slot, empty, named, tag_of, byte_of, word_at}

-- The words that cells and tag bytes read as.
unfoldable pub slots_of : List ℕ → List ℕ → List Slot
slots_of [] tags = []
slots_of (c ∷ cells) [] = []
slots_of (c ∷ cells) (t ∷ tags) = slot c (tag_of t) ∷ slots_of cells tags

-- The cells and the tag bytes that words are written as.
abbrev pub cells_of : List Slot → List ℕ
cells_of l = map (λ w. w.cell) l

abbrev pub tag_bytes : List Slot → List ℕ
tag_bytes l = map (λ w. byte_of w.tag) l

-- A party's register.
unfoldable pub register_in : List ℕ → List ℕ → ℕ → ℕ → Slot
register_in words marks party reg = pick (named party && named reg) (word_at words marks (8 * party + reg)) empty

-- A tag byte that words are written as: "only 0 and 1 are written."
abbrev pub bit : ℕ → ℕ → Bool
bit i n = leb n 1

-- Each number of the second list is replaced by what f makes of the number beside it in the first, and itself. Where either
-- list ends the second stays.
unfoldable pub map_beside : (ℕ → ℕ → ℕ) → List ℕ → List ℕ → List ℕ
map_beside f [] ys = ys
map_beside f (x ∷ xs) [] = []
map_beside f (x ∷ xs) (y ∷ ys) = f x y ∷ map_beside f xs ys

-- 07: the tag bytes after a collect, 0 where the cell beside dies with the range; and the cells of mailboxes, 0 where such a
-- cell was tagged.
abbrev pub collected_mark : Range → ℕ → ℕ → ℕ
collected_mark range cell mark = pick (dies range cell) 0 mark

abbrev pub collected_cell : Range → ℕ → ℕ → ℕ
collected_cell range flag cell = pick (tag_of flag && dies range cell) 0 cell

unfoldable pub collected_marks : Range → List ℕ → List ℕ → List ℕ
collected_marks range words marks = map_beside (collected_mark range) words marks

unfoldable pub collected_mail : Range → List ℕ → List ℕ → List ℕ
collected_mail range mail flags = map_beside (collected_cell range) flags mail
