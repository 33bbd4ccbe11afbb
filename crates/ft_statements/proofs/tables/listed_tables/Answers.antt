-- sorted names
use Rattle.std.proofs.Common.{subst, string_bytes}
use Rattle.std.specs.List.Sorted.{IsPermutation}
use Rattle.std.proofs.lemmas.List.Sorted.{IsPermutation-map}
use Rattle.ft_statements.proofs.Common.{texts_of}
use Rattle.ft_statements.proofs.TableLemmas.{sorted_texts}
use Rattle.ft_statements.proofs.tables.listed_tables.Goals as goal

pub returns : goal.returns
returns c = record {
  permutation = subst (λ names. IsPermutation names (texts_of c.sort.new.self)) c.in_ok-names.ensures (IsPermutation-map string_bytes c.in_ok-names.names.items c.sort.new.self.items c.in_ok-sort.ensures.permutation);
  sorted_names = sorted_texts c.sort.new.self.items c.in_ok-sort.ensures.sorted;
}
