-- Calls one after another.
use Rattle.std.proofs.Common.{Bool, true, false}
use Rattle.ft_query.proofs.Common.{Reaches, Stays, Goes, Ends}

pub no_call : {X : Type 0} (Becomes : X → Bool → X → Type 0) (x : X) (all : Bool) → Reaches Becomes x all x
no_call Becomes x all = Stays x all

pub one_call : {X : Type 0} (Becomes : X → Bool → X → Type 0) (x y : X) (all : Bool) → Becomes x all y → Reaches Becomes x all y
one_call Becomes x y true step = Goes x y y true step (Stays y true)
one_call Becomes x y false step = Ends x y step

abbrev IsAll : Bool → Type 0
IsAll true = Unit {0}
IsAll false = ⊥

joined : {X : Type 0} (Becomes : X → Bool → X → Type 0) (x y z : X) (one all : Bool) → IsAll one → Reaches Becomes x one y → Reaches Becomes y all z
    → Reaches Becomes x all z
joined Becomes x y z one all h (Stays w _) rest = rest
joined Becomes x y z one all h (Goes a b d _ step calls) rest = Goes a b z all step (joined Becomes b d z one all h calls rest)
joined Becomes x y z one all h (Ends a b step) rest = absurd h

pub reaches_on : {X : Type 0} (Becomes : X → Bool → X → Type 0) (x y z : X) (all : Bool) → Reaches Becomes x true y → Reaches Becomes y all z
    → Reaches Becomes x all z
reaches_on Becomes x y z all calls rest = joined Becomes x y z true all tt calls rest
