use Rattle.std.proofs.Common.{refl, mul-le-mul}
use Rattle.tower.specs.Checks.{places}
use Rattle.parts.proofs.places_of.Goals as goal

pub returns : goal.returns
unfolding places
returns c =
    let s = c.in_ok-side.ensures in
    record { levels = s.levels; value = rw s.value refl; some = mul-le-mul s.some s.some; few = mul-le-mul s.small s.small }
