use Rattle.std.proofs.Common.{refl}
use Rattle.drafts.proofs.Standing.{none_given}
use Rattle.drafts.proofs.Draft.new.Goals as goal

pub returns : goal.returns
returns c = none_given _ _ refl c.new.ensures.items refl
