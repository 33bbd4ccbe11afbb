-- by the marks of an opening
use Rattle.std.proofs.Common.{sym, subst}
use Rattle.ft_calls.specs.Kept.{StoreHolds}
use Rattle.ft_index.proofs.full_text.FullText.opens_what_is_left.Goals as goal

pub returns : goal.returns
returns g c = λ left contents held old made same opens up. opens.marks up contents (subst (λ v. StoreHolds v contents) (sym same) held)
