-- the tables that pass
use Rattle.std.proofs.Common.{◌≡◌, not, List, [], ◌∷◌, map, cond, true, false, ℤ, refl, ap, ◌∙◌, rules, filter, int_eq}
use Rattle.ft_documents.proofs.Common.{filter_same, TableInfo, shown_info, without_info}
use Rattle.ft_documents.proofs.tables.remove_table.Goals as goal

info_without : (id : ℤ) (tables : List TableInfo) → map shown_info (filter (λ (t : TableInfo). not (int_eq id t.id)) tables) ≡ without_info id (map shown_info tables)
info_without id [] = refl
info_without id (t ∷ ts) = elim (int_eq id t.id) as (λ b. map shown_info (cond (not b) (t ∷ filter (λ (t : TableInfo). not (int_eq id t.id)) ts) (filter (λ (t : TableInfo). not (int_eq id t.id)) ts)) ≡ cond (not b) (shown_info t ∷ without_info id (map shown_info ts)) (without_info id (map shown_info ts))) [ true ↦ info_without id ts | false ↦ ap (λ l. shown_info t ∷ l) (info_without id ts) ]

pub returns : goal.returns
returns c = ap (map shown_info) (filter_same _ (λ (t : TableInfo). not (int_eq c.args.id t.id)) _ (λ x b f k. search rules) c.args.tables.now.items c.retain.new.self.items c.retain.ensures.filtered) ∙ info_without c.args.id c.args.tables.now.items
