-- Keys and checks of a table.
use Rattle.std.proofs.Common.{ℕ, suc, zero, ◌≡◌, ◌<◌, ◌≤◌, ◌∙◌, ◌↔◌, sym, ap, List, [], ◌∷◌, ◌++◌, ◌-◌, Bool, true, false, length, get_or, slice_index_or, nat_eq, IsTrue, arith, rules, bytes_eq}
use Rattle.ft_opening.proofs.Common.{bytes_eq-Decides, append_cancel_left, append_cancel_right, Order, Is, Term, lit, col, op2, Null}
use Rattle.sqlite_sql.specs.declared.ops.BinaryOp.{BinaryOp}
use Rattle.sqlite_schema.specs.declared.code.Op.{Op}
use Rattle.sqlite_schema.specs.declared.code.Op.TheVariants.{Literal, Column, Unary, Binary, Case}
use Rattle.sqlite_schema.specs.Code.{term_to, op_term, terms_in}
use Rattle.sqlite.specs.Collation.TheVariants.{Binary as BinaryOrder}
use Rattle.ft_opening.specs.Same.{uniques_of, orders_of, cell_test, cell_check}

same_bytes : (a b : List ℕ) → bytes_eq a b ≡ true → a ≡ b
same_bytes a b h = grind (arith, bytes_eq-Decides a b)

bytes_same : (a b : List ℕ) → a ≡ b → bytes_eq a b ≡ true
bytes_same a b h = grind (arith, bytes_eq-Decides a b)

alike : (a b : ℕ) → IsTrue (nat_eq a b) → a ≡ b
alike a b t = grind (arith, t)

itself : (a b : ℕ) → a ≡ b → IsTrue (nat_eq a b)
itself a b e = grind (arith, e)

pub one_key : (us : List (List ℕ)) (os : List Order) (key u : List ℕ) (digits : ℕ) (d : Order) → 1 ≤ length key → 1 ≤ length us → length us < 2 → 1 ≤ length os → length os < 2 → u ≡ get_or us 0 u → u ≡ key
    → IsTrue (nat_eq (get_or os 0 d).digits digits) ↔ ((us ≡ uniques_of key) × (os ≡ orders_of key digits))
one_key us os [] u digits d k a b e f is same = absurd (omega (arith, k))
one_key [] os (x ∷ key) u digits d k a b e f is same = absurd (omega (arith, a))
one_key (v ∷ w ∷ us) os (x ∷ key) u digits d k a b e f is same = absurd (omega (arith, b))
one_key (v ∷ []) [] (x ∷ key) u digits d k a b e f is same = absurd (omega (arith, e))
one_key (v ∷ []) (o ∷ p ∷ os) (x ∷ key) u digits d k a b e f is same = absurd (omega (arith, f))
one_key (v ∷ []) (o ∷ []) (x ∷ key) u digits d k a b e f is same = (
  λ t. ((λ i. (sym is ∙ same) i ∷ []), (λ i. record { digits = (alike o.digits digits t) i } ∷ [])),
  λ e. itself o.digits digits (λ i. (get_or (e.1 i) 0 d).digits),
)

-- a node of two parts
pub two : (o : BinaryOp) (nodes : List Op) (d at a b : ℕ) (x y : Term) (r : Bool) → slice_index_or nodes at (Literal Null) ≡ Binary o a b → term_to nodes d a ≡ x → IsTrue r ↔ (term_to nodes d b ≡ y) → IsTrue r ↔ (term_to nodes (suc d) at ≡ op2 o x y)
two o nodes d at a b x y r e h g = rw e (λ t. (λ i. op2 o (h i) (g.0 t i)), λ q. g.1 (search (rules, q)))

pub not_two : (o : BinaryOp) (nodes : List Op) (d at a b : ℕ) (x y : Term) (r : Bool) → slice_index_or nodes at (Literal Null) ≡ Binary o a b → r ≡ false → IsTrue r ↔ (term_to nodes d a ≡ x) → IsTrue r ↔ (term_to nodes (suc d) at ≡ op2 o x y)
not_two o nodes d at a b x y r e f g = rw e (λ t. absurd (search (rules, f, t)), λ q. g.1 (search (rules, q)))

abbrev flat : ℕ → Term
flat at = lit Null

flat_one : (op : Op) → op_term flat op ≡ op2 (Is BinaryOrder) (col 1 4) (lit Null) → ⊥
flat_one (Literal v) h = search (rules, h)
flat_one (Column s a) h = search (rules, h)
flat_one (Unary o a) h = search (rules, h)
flat_one (Binary o a b) h = search (rules, h)
flat_one (Case t a b) h = search (rules, h)

flat_top : (op : Op) → op_term flat op ≡ cell_test → ⊥
flat_top (Literal v) h = search (rules, h)
flat_top (Column s a) h = search (rules, h)
flat_top (Unary o a) h = search (rules, h)
flat_top (Binary o a b) h = search (rules, h)
flat_top (Case t a b) h = search (rules, h)

flat_two : (ops : List Op) (op : Op) → op_term (λ at. op_term flat (slice_index_or ops at (Literal Null))) op ≡ cell_test → ⊥
flat_two ops (Literal v) h = search (rules, h)
flat_two ops (Column s a) h = search (rules, h)
flat_two ops (Unary o a) h = search (rules, h)
flat_two ops (Binary o a b) h = flat_one (slice_index_or ops a (Literal Null)) (search (rules, h))
flat_two ops (Case t a b) h = search (rules, h)

shallow : (nodes : List Op) (d root : ℕ) → d ≤ 2 → term_to nodes d root ≡ cell_test → ⊥
shallow nodes zero root low h = search (rules, h)
shallow nodes (suc zero) root low h = flat_top (slice_index_or nodes root (Literal Null)) h
shallow nodes (suc (suc zero)) root low h = flat_two nodes (slice_index_or nodes root (Literal Null)) h
shallow nodes (suc (suc (suc d))) root low h = absurd (omega (arith, low))

by_depth : (nodes : List Op) (d n root : ℕ) (checks : List Term) (r : Bool) → n ≡ suc (suc (suc d)) → IsTrue r ↔ (term_to nodes (suc (suc (suc d))) root ≡ cell_test)
    → checks ≡ (term_to nodes n root ∷ []) → IsTrue r ↔ (checks ≡ cell_check)
by_depth nodes d n root checks r e each = rw e (λ is. (λ t. is ∙ (λ i. each.0 t i ∷ []), λ q. each.1 (λ i. get_or ((sym is ∙ q) i) 0 (lit Null))))

pub one_check : (nodes : List Op) (roots : List ℕ) (checks : List Term) (r : Bool) → terms_in nodes roots ≡ checks → 1 ≤ length roots → length roots < 2 → 2 < length nodes
    → ((depth : ℕ) → IsTrue r ↔ (term_to nodes (suc (suc (suc depth))) (get_or roots 0 0) ≡ cell_test)) → IsTrue r ↔ (checks ≡ cell_check)
one_check nodes [] checks r is low high deep each = absurd (omega (arith, low))
one_check nodes (root ∷ []) checks r is low high deep each = by_depth nodes (length nodes - 3) (length nodes) root checks r (omega (arith, deep)) (each (length nodes - 3)) (sym is)
one_check nodes (root ∷ other ∷ more) checks r is low high deep each = absurd (omega (arith, high))

pub no_check : (nodes : List Op) (roots : List ℕ) (checks : List Term) → terms_in nodes roots ≡ checks → 1 ≤ length roots → length nodes ≤ 2 → checks ≡ cell_check → ⊥
no_check nodes [] checks is low high e = absurd (omega (arith, low))
no_check nodes (root ∷ roots) checks is low high e = shallow nodes (length nodes) root high (λ i. get_or ((is ∙ e) i) 0 (lit Null))

-- a text between two others
pub between : (name front rest inner back table : List ℕ) (r : Bool) → name ≡ front ++ rest → rest ≡ inner ++ back → r ≡ bytes_eq inner table → IsTrue r ↔ (name ≡ front ++ (table ++ back))
between name front rest inner back table r e f g = (
  λ t. e ∙ ap (λ l. front ++ l) (f ∙ ap (λ l. l ++ back) (same_bytes inner table (search (rules, g, t)))),
  λ q. search (rules, g, bytes_same inner table (append_cancel_right inner table back (sym f ∙ append_cancel_left front rest (table ++ back) (sym e ∙ q)))),
)
