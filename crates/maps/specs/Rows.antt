-- Rows of numbers, halved and back. Assumes nothing: these are definitions.
--     line                a list as a line of numbers
--     RowHalved           the means and the differences of a row, and what is past them as it was; RowHalvedTo: of its first places
--     OneBack             a number is the one of its pair that its place says
--     PairsBack           places of whole pairs are what their means and differences lead back to
--     RowBack             places of a row are, a last one alone too
use Rattle.std.specs.Prelude.{◌≡◌, ℕ, ◌+◌, ◌*◌, ◌/◌, ◌%◌, ◌<◌, ◌≤◌, List, length, ℤ, pos, slice_index_or}
use Rattle.pairs.specs.Pairs.{Height, Difference, one_of}
use Rattle.levels.specs.Maps.{line_up, apart, line_down}

abbrev pub line : List ℤ → ℕ → ℤ
line xs i = slice_index_or xs i (pos 0)

-- so far m means of a row and d differences, each kind from the front of a list; nothing past them is another
pub record RowHalvedTo (m d : ℕ) (row ms ms' ds ds' : List ℤ) : Type 0 where
  pub means : (k : ℕ) → k < m → line ms' k ≡ line_up (length row) (line row) k
  pub across : (k : ℕ) → k < d → line ds' k ≡ apart (line row) k
  pub rest : (i : ℕ) → (m ≤ i → line ms' i ≡ line ms i) × (d ≤ i → line ds' i ≡ line ds i)

abbrev pub RowHalved : (row means means' differences differences' : List ℤ) → Type 0
RowHalved row = RowHalvedTo ((length row + 1) / 2) (length row / 2) row

-- r stands at the place x, in the pair j; of numbers that are no mean and difference of heights nothing is said
abbrev pub OneBack : (x : ℕ) → (means differences : List ℤ) → (j : ℕ) → ℤ → Type 0
OneBack x ms ds j r = Height (line ms j) → Difference (line ds j) → r ≡ one_of x (line ms j) (line ds j)

-- m places from the place x on; the means and the differences begin with those of its pair
abbrev pub PairsBack : (x m : ℕ) → (means differences row : List ℤ) → Type 0
PairsBack x m ms ds row = (i j : ℕ) → i < m → j ≡ (x % 2 + i) / 2 → OneBack (x + i) ms ds j (line row i)

-- the same in a row of n places, where a last place may have no neighbour and no difference
abbrev pub RowBack : (n x m : ℕ) → (means differences row : List ℤ) → Type 0
RowBack n x m ms ds row = (i j : ℕ) → i < m → j ≡ (x % 2 + i) / 2 → Height (line ms j) → (2 * ((x + i) / 2) + 1 < n → Difference (line ds j)) → line row i ≡ line_down n (x + i) (line ms j) (line ds j)
