-- Meaning. Forms of words: which words a command is written in, and what they mean. A form is data; that words have a form is one relation
-- over all forms, and by the same forms they are read. All of it is our own choice; what the forms of statements are, is said in Grammar.
use Rattle.std.specs.Prelude.{◌≡◌, ◌⊎◌, Bool, true, false, List, [], ◌∷◌, ◌++◌, Option, Some}

-- what a word does to words in groups, as parentheses are, that commas part
pub data Mark : Type 0 where
  Opens : Mark
  Closes : Mark
  Parts : Mark
  Other : Mark

infixl 20 ◌&◌
infixl 20 ◌·◌
-- a form of words of the kind W, which mean an A
pub data Form (W : Type 0) : Type 0 → Type 1 where
  -- no words
  means : {A : Type 0} → A → Form W A
  -- one word that means something
  one : {A : Type 0} → (W → Option A) → Form W A
  -- nothing is left
  ends : Form W (Unit {0})
  -- the first, and what the second means is given to it
  ◌&◌ : {A B : Type 0} → Form W (A → B) → Form W A → Form W B
  -- the first, and then the second, whose meaning adds nothing
  ◌·◌ : {A B : Type 0} → Form W A → Form W B → Form W A
  -- the form, where it means something
  such : {A : Type 0} → Form W (Option A) → Form W A
  -- the first where the next word is such a one, else the second
  when : {A : Type 0} → (W → Bool) → Form W A → Form W A → Form W A
  -- the first, and where words don't have it, the second
  first : {A : Type 0} → Form W A → Form W A → Form W A
  -- part {, part}
  list : {A : Type 0} → (W → Bool) → Form W A → Form W (List A)
  -- any words whose groups are closed, up to one that closes or parts
  balanced : (W → Mark) → Form W (List W)

-- whether the next word is such a one
abbrev pub begins : {W : Type 0} → (W → Bool) → List W → Bool
begins test [] = false
begins test (t ∷ ts) = test t

-- a part, and each further one after a comma
pub data Separated {W A : Type 0} (comma : W → Bool) (Part : List W → A → List W → Type 0) : List W → List A → List W → Type 0 where
  last_part : {ts rest : List W} {x : A} → Part ts x rest → begins comma rest ≡ false → Separated comma Part ts (x ∷ []) rest
  then_comma : {ts us rest : List W} {t : W} {x : A} {xs : List A} →
      Part ts x (t ∷ us) → comma t ≡ true → Separated comma Part us xs rest → Separated comma Part ts (x ∷ xs) rest

-- any words whose groups are closed; those that part stand in groups alone
pub data IsBalanced {W : Type 0} (mark : W → Mark) : (inside : Bool) → List W → Type 0 where
  no_word : {inside : Bool} → IsBalanced mark inside []
  any_word : {inside : Bool} {t : W} {ts : List W} → mark t ≡ Other → IsBalanced mark inside ts → IsBalanced mark inside (t ∷ ts)
  any_part : {t : W} {ts : List W} → mark t ≡ Parts → IsBalanced mark true ts → IsBalanced mark true (t ∷ ts)
  group : {inside : Bool} {left : W} {us ts : List W} →
      mark left ≡ Opens → IsBalanced mark true us → (right : W) → mark right ≡ Closes → IsBalanced mark inside ts →
      IsBalanced mark inside (left ∷ us ++ right ∷ ts)

-- whether a word ends those before it, where no group is open
abbrev pub ends_part : Mark → Bool
ends_part Closes = true
ends_part Parts = true
ends_part _ = false

-- no word is left, or the next one closes or parts
abbrev pub Stops : {W : Type 0} → (W → Mark) → List W → Type 0
Stops mark [] = Unit {0}
Stops mark (t ∷ ts) = ends_part (mark t) ≡ true

-- the words have the form at their front, which means this, and these are left
abbrev pub Has : {W A : Type 0} → Form W A → List W → A → List W → Type 0
Has (means x) ts y rest = (x ≡ y) × (ts ≡ rest)
Has {W} (one f) ts x rest = (t : W) × (ts ≡ t ∷ rest) × (f t ≡ Some x)
Has ends ts x rest = (ts ≡ []) × (rest ≡ [])
Has {W} (◌&◌ {A} {B} p q) ts y rest = (f : A → B) × (x : A) × (mid : List W) × Has p ts f mid × Has q mid x rest × (f x ≡ y)
Has {W} (◌·◌ {A} {B} p q) ts x rest = (y : B) × (mid : List W) × Has p ts x mid × Has q mid y rest
Has (such p) ts x rest = Has p ts (Some x) rest
Has (when test p q) ts x rest = ((begins test ts ≡ true) × Has p ts x rest) ⊎ ((begins test ts ≡ false) × Has q ts x rest)
Has {W} (first {A} p q) ts x rest = Has p ts x rest ⊎ (((y : A) (left : List W) → ¬ Has p ts y left) × Has q ts x rest)
Has (list comma p) ts xs rest = Separated comma (Has p) ts xs rest
Has (balanced mark) ts us rest = (ts ≡ us ++ rest) × IsBalanced mark false us × Stops mark rest
