-- The command of a line, by its name and its numbers. Assumes nothing.
use Rattle.std.proofs.Common.{◌≡◌, ℕ, Bool, true, false, ◌&&◌, ◌||◌, eqb, ◌+◌, List, [], ◌∷◌, length, get_or, Some, None, codes, Option, sym, refl, ap, ◌∙◌, arith}
use Rattle.std.specs.Str.{bytes_eq}
use Rattle.std.proofs.lemmas.Slice.Eq.{bytes_eq-Decides}
use Rattle.std.proofs.lemmas.Bool.{cond-false, true≢false, or_parts}
use Rattle.std.proofs.lemmas.Bool.Decides.{nat_tests}
use Rattle.messages.specs.declared.command.Command.{Command}
use Rattle.messages.specs.declared.command.Command.TheVariants.{Map, Level, Window, Set, Tower, Coarse}
use Rattle.texts.specs.Commands.{no_number, one_number, three_numbers, four_numbers, named, with_numbers, command_of, command}
use Rattle.texts.specs.Words.{words, number, all_read}

-- behind the name, just n numbers make a command
pub record Takes (name : List ℕ) (n : ℕ) (make : List ℕ → Command) : Type 0 where
  pub right : (ns : List ℕ) → length ns ≡ n → named name ns ≡ Some (make ns)
  pub wrong : (ns : List ℕ) → (length ns ≡ n → ⊥) → named name ns ≡ None

no_right : (c : Command) (ns : List ℕ) → length ns ≡ 0 → no_number c ns ≡ Some c
no_right c [] h = refl
no_right c (n ∷ ns) h = absurd (omega arith)

no_wrong : (c : Command) (ns : List ℕ) → (length ns ≡ 0 → ⊥) → no_number c ns ≡ None
no_wrong c [] h = absurd (h refl)
no_wrong c (n ∷ ns) h = refl

one_right : (f : ℕ → Command) (ns : List ℕ) → length ns ≡ 1 → one_number f ns ≡ Some (f (get_or ns 0 0))
one_right f [] h = absurd (omega arith)
one_right f (n ∷ ns) h = no_right (f n) ns (omega arith)

one_wrong : (f : ℕ → Command) (ns : List ℕ) → (length ns ≡ 1 → ⊥) → one_number f ns ≡ None
one_wrong f [] h = refl
one_wrong f (n ∷ ns) h = no_wrong (f n) ns (λ e. h (omega arith))

three_right : (f : ℕ → ℕ → ℕ → Command) (ns : List ℕ) → length ns ≡ 3 → three_numbers f ns ≡ Some (f (get_or ns 0 0) (get_or ns 1 0) (get_or ns 2 0))
three_right f [] h = absurd (omega arith)
three_right f (a ∷ []) h = absurd (omega arith)
three_right f (a ∷ b ∷ ns) h = one_right (f a b) ns (omega arith)

three_wrong : (f : ℕ → ℕ → ℕ → Command) (ns : List ℕ) → (length ns ≡ 3 → ⊥) → three_numbers f ns ≡ None
three_wrong f [] h = refl
three_wrong f (a ∷ []) h = refl
three_wrong f (a ∷ b ∷ ns) h = one_wrong (f a b) ns (λ e. h (omega arith))

four_right : (f : ℕ → ℕ → ℕ → ℕ → Command) (ns : List ℕ) → length ns ≡ 4 → four_numbers f ns ≡ Some (f (get_or ns 0 0) (get_or ns 1 0) (get_or ns 2 0) (get_or ns 3 0))
four_right f [] h = absurd (omega arith)
four_right f (a ∷ ns) h = three_right (f a) ns (omega arith)

four_wrong : (f : ℕ → ℕ → ℕ → ℕ → Command) (ns : List ℕ) → (length ns ≡ 4 → ⊥) → four_numbers f ns ≡ None
four_wrong f [] h = refl
four_wrong f (a ∷ ns) h = three_wrong (f a) ns (λ e. h (omega arith))

pub takes_map : Takes (codes "map") 1 (λ ns. Map (get_or ns 0 0))
unfolding named
takes_map = record { right = one_right Map; wrong = one_wrong Map }

pub takes_level : Takes (codes "level") 1 (λ ns. Level (get_or ns 0 0))
unfolding named
takes_level = record { right = one_right Level; wrong = one_wrong Level }

pub takes_window : Takes (codes "window") 4 (λ ns. Window (get_or ns 0 0) (get_or ns 1 0) (get_or ns 2 0) (get_or ns 3 0))
unfolding named
takes_window = record { right = four_right Window; wrong = four_wrong Window }

pub takes_set : Takes (codes "set") 3 (λ ns. Set (get_or ns 0 0) (get_or ns 1 0) (get_or ns 2 0))
unfolding named
takes_set = record { right = three_right Set; wrong = three_wrong Set }

pub takes_tower : Takes (codes "tower") 0 (λ ns. Tower)
unfolding named
takes_tower = record { right = no_right Tower; wrong = no_wrong Tower }

pub takes_coarse : Takes (codes "coarse") 1 (λ ns. Coarse (get_or ns 0 0))
unfolding named
takes_coarse = record { right = one_right Coarse; wrong = one_wrong Coarse }

pub command_none : (line : List ℕ) → words line ≡ [] → command line ≡ None
unfolding command
command_none line e = ap command_of e

pub command_is : (line name : List ℕ) (ws : List (List ℕ)) → words line ≡ name ∷ ws → command line ≡ with_numbers name (all_read number ws)
unfolding command
command_is line name ws e = ap command_of e

-- a word that is the name of a command
module _ {name : List ℕ} {n : ℕ} {make : List ℕ → Command} (t : Takes name n make) (w : List ℕ) (same : w ≡ name) (o : Option (List ℕ)) where
  pub command_right : (ns : List ℕ) → (o ≡ Some ns) × (length ns ≡ n) → with_numbers w o ≡ Some (make ns)
  command_right ns h = rw (same, h.0) (t.right ns h.1)

  pub command_wrong : ((ns : List ℕ) → o ≡ Some ns → length ns ≡ n → ⊥) → with_numbers w o ≡ None
  command_wrong h = rw same (go o h)
    where
      go : (o : Option (List ℕ)) → ((ns : List ℕ) → o ≡ Some ns → length ns ≡ n → ⊥) → with_numbers name o ≡ None
      go None h = refl
      go (Some ns) h = t.wrong ns (h ns refl)

-- the bytes of a word are those of a name
abbrev pub has_bytes : List ℕ → (i : ℕ) → List ℕ → Bool
has_bytes w i [] = true
has_bytes w i (b ∷ bs) = eqb (get_or w i 0) b && has_bytes w (i + 1) bs

abbrev pub spelled : List ℕ → List ℕ → Bool
spelled w name = eqb (length w) (length name) && has_bytes w 0 name

abbrev pub is_name : List ℕ → Bool
is_name w = spelled w (codes "map") || (spelled w (codes "level") || (spelled w (codes "window") || (spelled w (codes "set") || (spelled w (codes "tower") || spelled w (codes "coarse")))))

other : (w name : List ℕ) → spelled name name ≡ true → spelled w name ≡ false → bytes_eq w name ≡ false
other w name same h = go (bytes_eq w name) refl
  where
    go : (t : Bool) → bytes_eq w name ≡ t → t ≡ false
    go true e = absurd (true≢false (sym same ∙ ap (λ v. spelled v name) (sym ((bytes_eq-Decides w name).0 e)) ∙ h))
    go false e = refl

-- a word that is no name
pub no_command_lem : (w : List ℕ) (o : Option (List ℕ)) → is_name w ≡ false → with_numbers w o ≡ None
unfolding named
no_command_lem w None h = refl
no_command_lem w (Some ns) h =
    let a = or_parts _ _ h in
    let b = or_parts _ _ a.1 in
    let c = or_parts _ _ b.1 in
    let d = or_parts _ _ c.1 in
    let e = or_parts _ _ d.1 in
    cond-false _ _ _ (other w _ refl a.0) ∙ cond-false _ _ _ (other w _ refl b.0) ∙ cond-false _ _ _ (other w _ refl c.0) ∙ cond-false _ _ _ (other w _ refl d.0) ∙ cond-false _ _ _ (other w _ refl e.0) ∙ cond-false _ _ _ (other w _ refl e.1)

pub ruleset no_command = (no_command_lem, nat_tests)
