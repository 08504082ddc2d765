-- A row halved, one pair after the other. Assumes nothing.
use Rattle.std.proofs.Common.{◌≡◌, ℕ, ◌+◌, ◌<◌, ◌≤◌, ◌≢◌, List, length, set, ℤ, pos, ◌∙◌, arith, below_more}
use Rattle.std.proofs.lemmas.List.{get_or-set_same, get_or-set_other}
use Rattle.levels.specs.Maps.{line_up, apart}
use Rattle.maps.specs.Rows.{line, RowHalvedTo}

module _ (row ms₀ ms ds₀ ds : List ℤ) where
  module _ (x : ℕ) (a : ℤ) (room : x < length ms) (ea : a ≡ line_up (length row) (line row) x) (o : RowHalvedTo x x row ms₀ ms ds₀ ds) where
    one_more : (k : ℕ) → k < x + 1 → line (set ms x a) k ≡ line_up (length row) (line row) k
    one_more = below_more _ _ (λ k hk. let n : k ≢ x = omega arith in get_or-set_other ms x k a (pos 0) n ∙ o.means k hk) (get_or-set_same ms x a (pos 0) room ∙ ea)

    means_past : (i : ℕ) → x + 1 ≤ i → line (set ms x a) i ≡ line ms₀ i
    means_past i hi = let n : i ≢ x = omega arith in get_or-set_other ms x i a (pos 0) n ∙ (o.rest i).0 (omega arith)

    -- one pair more
    pub row_more : (b : ℤ) → x < length ds → b ≡ apart (line row) x → RowHalvedTo (x + 1) (x + 1) row ms₀ (set ms x a) ds₀ (set ds x b)
    row_more b hx eb = record {
      means = one_more;
      across = below_more _ _ (λ k hk. let n : k ≢ x = omega arith in get_or-set_other ds x k b (pos 0) n ∙ o.across k hk) (get_or-set_same ds x b (pos 0) hx ∙ eb);
      rest = λ i. (means_past i, λ hi. let n : i ≢ x = omega arith in get_or-set_other ds x i b (pos 0) n ∙ (o.rest i).1 (omega arith));
    }

    -- a last place alone
    pub row_last : RowHalvedTo (x + 1) x row ms₀ (set ms x a) ds₀ ds
    row_last = record { means = one_more; across = o.across; rest = λ i. (means_past i, (o.rest i).1) }
