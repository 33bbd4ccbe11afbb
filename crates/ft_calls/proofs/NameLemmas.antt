-- No two tables get one name, and none gets unsound.
use Rattle.std.proofs.Common.{◌≡◌, ℕ, Bool, true, false, cond, not, ◌||◌, List, [], ◌∷◌, Some, ℤ, pos, refl, sym, ap, ◌∙◌, filter, is_some, Less, Equal, Greater, int_cmp, int_eq}
use Rattle.std.proofs.lemmas.Bool.{or_parts}
use Rattle.std.specs.List.{list_any}
use Rattle.std.specs.Cmp.Lexicographic.{nat_list_eq_equiv}
use Rattle.std.specs.FinMap.Entries.{by_order, put}
use Rattle.ft_content.specs.Content.{same_name, repeats_name, Content, Documents}
use Rattle.ft_commands.specs.Command.{Command, Create, Drop, Insert, Update, Delete, Rebuild}
use Rattle.ft_content.specs.Step.{TableState, Table, Contents, table_named, made_columns, free_id_from, new_table, inserted, updated, deleted, with_documents, rebuilt, on_table, after, Sound}
use Rattle.ft_content.specs.Views.{table_names}
use Rattle.ft_calls.specs.Kept.{left_by, is_sound}
use Rattle.std.specs.Str.{str_to_ascii_lowercase}
use Rattle.ft_calls.specs.Kept.{NamesStayApart, is_unsound, NoneGetsUnsound}

no_or : (a b : Bool) → a ≡ false → b ≡ false → (a || b) ≡ false
no_or true b h g = absurd (let no = h in cc)
no_or false b h g = g

name_symm : (a b : List ℕ) → same_name a b ≡ same_name b a
name_symm a b = nat_list_eq_equiv.symm (str_to_ascii_lowercase a) (str_to_ascii_lowercase b)

-- a name that no table has
abbrev is_new : List ℕ → Contents → Type 0
is_new name ts = list_any (λ (t : ℤ × Table). same_name t.1.name name) ts ≡ false

new_either_way : (name : List ℕ) (ts : Contents) → is_new name ts → list_any (same_name name) (table_names ts) ≡ false
new_either_way name [] h = refl
new_either_way name (t ∷ ts) h =
    let parts = or_parts (same_name t.1.name name) (list_any (λ (t : ℤ × Table). same_name t.1.name name) ts) h in
    no_or (same_name name t.1.name) (list_any (same_name name) (table_names ts)) (name_symm name t.1.name ∙ parts.0) (new_either_way name ts parts.1)

new_if_none : (name : List ℕ) (ts : Contents) → is_some (table_named ts name) ≡ list_any (λ (t : ℤ × Table). same_name t.1.name name) ts
new_if_none name [] = refl
new_if_none name (t ∷ ts) = elim (same_name t.1.name name) as (λ b. is_some (cond b (Some t) (table_named ts name)) ≡ (b || list_any (λ (t : ℤ × Table). same_name t.1.name name) ts)) [ true ↦ refl | false ↦ new_if_none name ts ]

none_put : (q : List ℕ → Bool) (k : ℤ) (new : Table) (ts : Contents) → q new.name ≡ false → list_any q (table_names ts) ≡ false → list_any q (table_names (put int_cmp k new ts)) ≡ false
none_put q k new [] h g = no_or (q new.name) false h refl
none_put q k new (t ∷ ts) h g =
    let parts = or_parts (q t.1.name) (list_any q (table_names ts)) g in
    elim (int_cmp k t.0) as (λ o. list_any q (table_names (by_order o ((k, new) ∷ t ∷ ts) ((t.0, new) ∷ ts) (t ∷ put int_cmp k new ts))) ≡ false) [
      | Less ↦ no_or (q new.name) (q t.1.name || list_any q (table_names ts)) h g
      | Equal ↦ no_or (q new.name) (list_any q (table_names ts)) h parts.1
      | Greater ↦ no_or (q t.1.name) (list_any q (table_names (put int_cmp k new ts))) parts.0 (none_put q k new ts h parts.1)
    ]

apart_put : (k : ℤ) (new : Table) (ts : Contents) → is_new new.name ts → repeats_name (table_names ts) ≡ false → repeats_name (table_names (put int_cmp k new ts)) ≡ false
apart_put k new [] h g = refl
apart_put k new (t ∷ ts) h g =
    let fresh = or_parts (same_name t.1.name new.name) (list_any (λ (t : ℤ × Table). same_name t.1.name new.name) ts) h in
    let parts = or_parts (list_any (same_name t.1.name) (table_names ts)) (repeats_name (table_names ts)) g in
    elim (int_cmp k t.0) as (λ o. repeats_name (table_names (by_order o ((k, new) ∷ t ∷ ts) ((t.0, new) ∷ ts) (t ∷ put int_cmp k new ts))) ≡ false) [
      | Less ↦ no_or (list_any (same_name new.name) (table_names (t ∷ ts))) (repeats_name (table_names (t ∷ ts))) (new_either_way new.name (t ∷ ts) h) g
      | Equal ↦ no_or (list_any (same_name new.name) (table_names ts)) (repeats_name (table_names ts)) (new_either_way new.name ts fresh.1) parts.1
      | Greater ↦ no_or (list_any (same_name t.1.name) (table_names (put int_cmp k new ts))) (repeats_name (table_names (put int_cmp k new ts))) (none_put (same_name t.1.name) k new ts fresh.0 parts.0) (apart_put k new ts fresh.1 parts.1)
    ]

none_kept : (q : List ℕ → Bool) (p : ℤ × Table → Bool) (ts : Contents) → list_any q (table_names ts) ≡ false → list_any q (table_names (filter p ts)) ≡ false
none_kept q p [] h = refl
none_kept q p (t ∷ ts) h =
    let parts = or_parts (q t.1.name) (list_any q (table_names ts)) h in
    elim (p t) as (λ b. list_any q (table_names (cond b (t ∷ filter p ts) (filter p ts))) ≡ false) [
      | true ↦ no_or (q t.1.name) (list_any q (table_names (filter p ts))) parts.0 (none_kept q p ts parts.1)
      | false ↦ none_kept q p ts parts.1
    ]

apart_kept : (p : ℤ × Table → Bool) (ts : Contents) → repeats_name (table_names ts) ≡ false → repeats_name (table_names (filter p ts)) ≡ false
apart_kept p [] h = refl
apart_kept p (t ∷ ts) h =
    let parts = or_parts (list_any (same_name t.1.name) (table_names ts)) (repeats_name (table_names ts)) h in
    elim (p t) as (λ b. repeats_name (table_names (cond b (t ∷ filter p ts) (filter p ts))) ≡ false) [
      | true ↦ no_or (list_any (same_name t.1.name) (table_names (filter p ts))) (repeats_name (table_names (filter p ts))) (none_kept (same_name t.1.name) p ts parts.0) (apart_kept p ts parts.1)
      | false ↦ apart_kept p ts parts.1
    ]

names_changed : (name : List ℕ) (change : TableState → TableState) (ts : Contents) → table_names (on_table ts name change) ≡ table_names ts
names_changed name change [] = refl
names_changed name change (t ∷ ts) =
    elim (same_name t.1.name name) as (λ b. (cond b (t.0, record { name = t.1.name; held = change t.1.held }) t).1.name ∷ table_names (on_table ts name change) ≡ t.1.name ∷ table_names ts) [
      | true ↦ ap (λ ns. t.1.name ∷ ns) (names_changed name change ts)
      | false ↦ ap (λ ns. t.1.name ∷ ns) (names_changed name change ts)
    ]

apart_changed : (name : List ℕ) (change : TableState → TableState) (ts : Contents) → repeats_name (table_names ts) ≡ false → repeats_name (table_names (on_table ts name change)) ≡ false
apart_changed name change ts h = ap repeats_name (names_changed name change ts) ∙ h

pub apart_after : (contents : Contents) (command : Command) → repeats_name (table_names contents) ≡ false → repeats_name (table_names (after contents command)) ≡ false
unfolding after
apart_after contents (Create table module_name options columns if_new) h =
    let new = new_table table options (made_columns columns) in
    elim (is_some (table_named contents table)) as (λ b. is_some (table_named contents table) ≡ b → repeats_name (table_names (cond b contents (put int_cmp (pos (free_id_from 1 contents)) new contents))) ≡ false) [
      | true ↦ λ there. h
      | false ↦ λ none. apart_put (pos (free_id_from 1 contents)) new contents (sym (new_if_none table contents) ∙ none) h
    ] refl
apart_after contents (Drop table if_there) h = apart_kept (λ (t : ℤ × Table). not (same_name t.1.name table)) contents h
apart_after contents (Insert table columns rows) h = apart_changed table (with_documents (λ content. inserted content columns rows)) contents h
apart_after contents (Update table sets f) h = apart_changed table (with_documents (λ content. updated content sets f)) contents h
apart_after contents (Delete table f) h = apart_changed table (with_documents (λ content. deleted content f)) contents h
apart_after contents (Rebuild table) h = apart_changed table rebuilt contents h
apart_after contents _ h = h

pub names_stay_apart : NamesStayApart
unfolding left_by
names_stay_apart first [] h = h
names_stay_apart first (command ∷ commands) h = names_stay_apart (after first command) commands (apart_after first command h)

-- ==== no table gets unsound

or_more : (a b c : Bool) → (b ≡ true → c ≡ true) → (a || b) ≡ true → (a || c) ≡ true
or_more true b c more h = refl
or_more false b c more h = more h

or_right : (a b : Bool) → b ≡ true → (a || b) ≡ true
or_right true b h = refl
or_right false b h = h

or_both : (a b c d : Bool) → (a ≡ true → b ≡ true) → (c ≡ true → d ≡ true) → (a || c) ≡ true → (b || d) ≡ true
or_both true true c d first rest h = refl
or_both true false c d first rest h = absurd (let no = first refl in cc)
or_both false b c d first rest h = or_right b d (rest h)

-- a sound table that is put
any_put : (id k : ℤ) (name : List ℕ) (content : Content) (ts : Contents) → list_any (is_unsound id) (put int_cmp k (record { name = name; held = Sound content }) ts) ≡ true → list_any (is_unsound id) ts ≡ true
any_put id k name content [] = λ h. h
any_put id k name content (t ∷ ts) =
    let new : Table = record { name = name; held = Sound content } in
    elim (int_cmp k t.0) as (λ o. list_any (is_unsound id) (by_order o ((k, new) ∷ t ∷ ts) ((t.0, new) ∷ ts) (t ∷ put int_cmp k new ts)) ≡ true → (is_unsound id t || list_any (is_unsound id) ts) ≡ true) [
      | Less ↦ λ h. h
      | Equal ↦ λ h. or_right (is_unsound id t) (list_any (is_unsound id) ts) h
      | Greater ↦ λ h. or_more (is_unsound id t) (list_any (is_unsound id) (put int_cmp k new ts)) (list_any (is_unsound id) ts) (any_put id k name content ts) h
    ]

any_kept : (id : ℤ) (q : ℤ × Table → Bool) (ts : Contents) → list_any (is_unsound id) (filter q ts) ≡ true → list_any (is_unsound id) ts ≡ true
any_kept id q [] = λ h. h
any_kept id q (t ∷ ts) = elim (q t) as (λ b. list_any (is_unsound id) (cond b (t ∷ filter q ts) (filter q ts)) ≡ true → (is_unsound id t || list_any (is_unsound id) ts) ≡ true) [
  | true ↦ λ h. or_more (is_unsound id t) (list_any (is_unsound id) (filter q ts)) (list_any (is_unsound id) ts) (any_kept id q ts) h
  | false ↦ λ h. or_right (is_unsound id t) (list_any (is_unsound id) ts) (any_kept id q ts h)
]

-- a change of what is held that leaves nothing unsound that wasn't
abbrev KeepsSound : (TableState → TableState) → Type 0
KeepsSound change = (held : TableState) → is_sound (change held) ≡ false → is_sound held ≡ false

unsound_if : (s u : Bool) (b : Bool) → (s ≡ false → u ≡ false) → cond s false b ≡ true → cond u false b ≡ true
unsound_if true u b keeps h = absurd (let no = h in cc)
unsound_if false true b keeps h = absurd (let no = keeps refl in cc)
unsound_if false false b keeps h = h

any_changed : (id : ℤ) (name : List ℕ) (change : TableState → TableState) → KeepsSound change → (ts : Contents) → list_any (is_unsound id) (on_table ts name change) ≡ true → list_any (is_unsound id) ts ≡ true
any_changed id name change keeps [] h = h
any_changed id name change keeps (t ∷ ts) h =
    let changed : ℤ × Table = (t.0, record { name = t.1.name; held = change t.1.held }) in
    or_both (is_unsound id (cond (same_name t.1.name name) changed t)) (is_unsound id t) (list_any (is_unsound id) (on_table ts name change)) (list_any (is_unsound id) ts)
    (elim (same_name t.1.name name) as (λ b. is_unsound id (cond b changed t) ≡ true → is_unsound id t ≡ true) [
      | true ↦ λ h. unsound_if (is_sound (change t.1.held)) (is_sound t.1.held) (int_eq id t.0) (keeps t.1.held) h
      | false ↦ λ h. h
    ])
    (any_changed id name change keeps ts) h

documents_keep : (change : Content → Documents) → KeepsSound (with_documents change)
documents_keep change (Sound content) h = h
documents_keep change _ h = refl

rebuilt_keeps : KeepsSound rebuilt
rebuilt_keeps (Sound content) h = h
rebuilt_keeps _ h = refl

after_one : (contents : Contents) (command : Command) (id : ℤ) → list_any (is_unsound id) (after contents command) ≡ true → list_any (is_unsound id) contents ≡ true
unfolding after
after_one contents (Create table module_name options columns if_new) id h =
    (elim (is_some (table_named contents table)) as (λ b. list_any (is_unsound id) (cond b contents (put int_cmp (pos (free_id_from 1 contents)) (new_table table options (made_columns columns)) contents)) ≡ true → list_any (is_unsound id) contents ≡ true) [
      | true ↦ λ h. h
      | false ↦ λ h. any_put id (pos (free_id_from 1 contents)) table _ contents h
    ]) h
after_one contents (Drop table if_there) id h = any_kept id (λ (t : ℤ × Table). not (same_name t.1.name table)) contents h
after_one contents (Insert table columns rows) id h = any_changed id table _ (documents_keep (λ content. inserted content columns rows)) contents h
after_one contents (Update table sets f) id h = any_changed id table _ (documents_keep (λ content. updated content sets f)) contents h
after_one contents (Delete table f) id h = any_changed id table _ (documents_keep (λ content. deleted content f)) contents h
after_one contents (Rebuild table) id h = any_changed id table rebuilt rebuilt_keeps contents h
after_one contents _ id h = h

pub none_gets_unsound : NoneGetsUnsound
unfolding left_by
none_gets_unsound first [] id h = h
none_gets_unsound first (command ∷ commands) id h = after_one first command id (none_gets_unsound (after first command) commands id h)
