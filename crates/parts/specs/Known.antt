-- What is known once the checks are passed. Assumes nothing: these are definitions.
use Rattle.std.specs.Prelude.{◌≡◌, ℕ, suc, ◌-◌, ◌*◌, ◌<◌, ◌≤◌}
use Rattle.maps.specs.Limits.{max_k}
use Rattle.tower.specs.Checks.{places}

-- n is how many places a map of k levels has
pub record PlacesOf (k n : ℕ) : Type 0 where
  pub levels : k ≤ max_k
  pub value : n ≡ places k
  pub some : 0 < n
  pub few : n ≤ 16384

-- n is how many places the level has
pub record CanHand (k tower l n : ℕ) : Type 0 where
  pub levels : k ≤ max_k
  pub level : l ≤ k
  pub value : n ≡ places (k - l)
  pub whole : tower ≡ places k
  pub within : n ≤ tower

-- n is how many places the next coarser level has
pub record CanDetail (k tower l n : ℕ) : Type 0 where
  pub level : l < k
  pub value : n ≡ places (k - suc l)
  pub four : 4 * n ≡ places (k - l)
  pub within : 4 * n ≤ tower

-- n is how many numbers the coarse part has
pub record CanJoin (k c d m n : ℕ) : Type 0 where
  pub levels : 0 < k
  pub coarse : c ≡ n
  pub detail : d ≡ 3 * n
  pub room : m ≡ 4 * n
  pub few : n ≤ 4096
