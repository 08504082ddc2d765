-- Parts of a tower of 2^k by 2^k places, handed back and put together. Assumes nothing: these are definitions.
--     coarse_of, detail_of     the first numbers, as many as a level has places; the numbers that lead to a level from the next coarser one
--     coarse_refusal, detail_refusal     when there is no such part
--     begins, part_size   where the j-th part of a tower stands in it, and how long it is: the top, and then the details, the coarsest first
--     join_refusal, assemble_refusal     when parts are not put together
--     CoarsePart          a part is the tower of the smaller map
--     Joined              two parts put together are the next finer coarse part
--     Handed              a part is handed back, or a part of none
--     Assembled           all parts put together are the tower
--     contents, joined    what lent parts hold, and that one after the other
use Rattle.std.specs.Prelude.{◌≡◌, ℕ, zero, suc, ◌+◌, ◌-◌, ◌<◌, min, if◌then◌else◌, not, List, [], ◌∷◌, ◌++◌, length, take, ℤ, Some, None, Option, ◌==◌, nat_le, nat_lt, slice_index_or}
use Rattle.std.specs.Borrow.{Bor}
use Rattle.std.specs.List.{between}
use Rattle.levels.specs.Maps.{Map, power, level}
use Rattle.levels.specs.Numbering.{Holds}
use Rattle.levels.specs.Square as Square
use Rattle.maps.specs.Limits.{max_k}
use Rattle.refusals.specs.declared.Refusal.{Refusal}
use Rattle.refusals.specs.declared.Refusal.TheVariants.{TooManyLevels, WrongNumber, WrongRoom, NoSuchLevel}
use Rattle.refusals.specs.Refusals.{refused_if}
use Rattle.tower.specs.Checks.{places, wrong_at}
use Rattle.tower.specs.Calls.{IsTowerOf}

unfoldable pub coarse_of : (k : ℕ) → List ℤ → (level : ℕ) → List ℤ
coarse_of k ts l = take (places (k - l)) ts

unfoldable pub detail_of : (k : ℕ) → List ℤ → (level : ℕ) → List ℤ
detail_of k ts l = between (places (k - suc l)) (places (k - l)) ts

unfoldable pub coarse_refusal : (k tower level : ℕ) → Option Refusal
coarse_refusal k n l =
    refused_if (nat_lt max_k k) (TooManyLevels k)
    (refused_if (not (n == places k)) (WrongNumber (min n (places k)))
    (refused_if (nat_lt k l) NoSuchLevel None))

-- the coarsest level has no coarser one that leads to it
unfoldable pub detail_refusal : (k tower level : ℕ) → Option Refusal
detail_refusal k n l =
    refused_if (nat_lt max_k k) (TooManyLevels k)
    (refused_if (not (n == places k)) (WrongNumber (min n (places k)))
    (refused_if (nat_le k l) NoSuchLevel None))

pub record CoarsePart (k : ℕ) (ts : List ℤ) (l : ℕ) (part : List ℤ) : Type 0 where
  pub numbers : part ≡ coarse_of k ts l
  pub holds : (p : Map) → Holds k (power k) (power k) ts p → Holds (k - l) (power (k - l)) (power (k - l)) part (level l (power k) (power k) p)
  pub square : (p : Map) → IsTowerOf k ts p → IsTowerOf (k - l) part (Square.halved_times l p)

abbrev pub Handed : Option Refusal → (part : List ℤ) → (there : Type 0) → Type 0
Handed (Some e) part there = part ≡ []
Handed None part there = there

-- the finer tower of k levels from the coarse part and the detail that leads to it; the places of a detail count on from the coarse part
unfoldable pub join_refusal : (k coarse detail room : ℕ) → Option Refusal
join_refusal k c d n =
    refused_if (nat_lt max_k k) (TooManyLevels k)
    (refused_if (k == 0) NoSuchLevel
    (refused_if (not (c == places (k - 1))) (WrongNumber (min c (places (k - 1))))
    (refused_if (not (d == places k - places (k - 1))) (WrongNumber (places (k - 1) + min d (places k - places (k - 1))))
    (refused_if (not (n == places k)) (WrongRoom n) None))))

-- the one part after the other. So where they are parts of a tower of l levels more, it is the coarse part of that tower for level l
pub record Joined (k : ℕ) (coarse detail after : List ℤ) : Type 0 where
  pub numbers : after ≡ coarse ++ detail
  pub grows : (l : ℕ) (ts : List ℤ) → length ts ≡ places (k + l) → coarse ≡ coarse_of (k + l) ts (suc l) → detail ≡ detail_of (k + l) ts l → CoarsePart (k + l) ts l after

unfoldable pub begins : ℕ → ℕ
begins zero = 0
begins (suc j) = places j

unfoldable pub part_size : ℕ → ℕ
part_size j = places j - begins j

-- the first place of the tower, from the j-th part on, that is missing or too many
unfoldable pub parts_wrong : (k j : ℕ) → List (List ℤ) → Option ℕ
parts_wrong k j [] = if nat_le j k then Some (begins j) else None
parts_wrong k j (t ∷ ts) =
    if nat_le j k then (if length t == part_size j then parts_wrong k (suc j) ts else Some (begins j + min (length t) (part_size j))) else Some (places k)

-- what a list of lent parts holds, one part after the other
unfoldable pub contents : List (Bor (List ℤ)) → List (List ℤ)
contents [] = []
contents (t ∷ ts) = t.now ∷ contents ts

unfoldable pub joined : List (List ℤ) → List ℤ
joined [] = []
joined (t ∷ ts) = t ++ joined ts

unfoldable pub assemble_refusal : (k : ℕ) → List (List ℤ) → (room : ℕ) → Option Refusal
assemble_refusal k cs n =
    refused_if (nat_lt max_k k) (TooManyLevels k)
    (wrong_at (parts_wrong k 0 cs)
    (refused_if (not (n == places k)) (WrongRoom n) None))

-- the parts one after the other; so from the parts of a tower, the top and then the details, the coarsest first, that tower
pub record Assembled (k : ℕ) (parts : List (List ℤ)) (after : List ℤ) : Type 0 where
  pub numbers : after ≡ joined parts
  pub length_is : length after ≡ places k
  pub whole : (ts : List ℤ) → length ts ≡ places k → slice_index_or parts 0 [] ≡ coarse_of k ts k → ((l : ℕ) → l < k → slice_index_or parts (k - l) [] ≡ detail_of k ts l) → after ≡ ts
