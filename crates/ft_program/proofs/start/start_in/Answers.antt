-- the words mean a line, which is run over the files of a host, or in memory
use Rattle.std.proofs.Common.{[], rules, map, subst, subst₂, None, inr, refl, string_bytes}
use Rattle.ft_program.specs.Inputs.{Outputs, Spares}
use Rattle.ft_program.specs.Memory.{Starts}
use Rattle.ft_program.proofs.MemoryLemmas.{of_a_file, of_the_line}
use Rattle.ft_program.proofs.start.start_in.Goals as goal

pub returns-in-None-clause-runs : goal.returns-in-None-clause-runs
returns-in-None-clause-runs g c =
    subst₂ (λ (old : Outputs) (new : Outputs). Starts g.D.Disk g.H.Databases.tells (g.H.Databases.holds c.args.host.now) (g.H.Databases.holds c.args.host.now) (map (λ word. word.now) c.args.words.now) (g.R.Read.remaining c.args.input.now) old new c.in_memory.result)
    (search rules) (search rules) (inr (c.in-Ok.line, c.in-Ok.ensures, of_the_line g.D.Disk g.H.Databases.tells [] _ _ c.in-Ok.line None _ _ _ _ _ c.in-None.is c.as_slice-inputs.ensures.value ((λ t other. refl), c.in_memory.ensures.runs)))

pub returns-clause-runs : goal.returns-clause-runs
returns-clause-runs g c =
    subst₂ (λ (old : Outputs) (new : Outputs). Starts g.D.Disk g.H.Databases.tells (g.H.Databases.holds c.args.host.now) (g.H.Databases.holds c.in_host.new.host) (map (λ word. word.now) c.args.words.now) (g.R.Read.remaining c.args.input.now) old new c.in_host.result)
    (search rules) (search rules) (inr (c.in-Ok.line, c.in-Ok.ensures, of_a_file g.D.Disk g.H.Databases.tells c.as_str.result.now _ _ c.in-Ok.line c.in-Some.path _ _ _ _ _ c.in-Some.is c.as_str.ensures.value c.as_slice-inputs.ensures.value c.in_host.ensures.runs))

pub returns-in-None-clause-spares : goal.returns-in-None-clause-spares
returns-in-None-clause-spares g c = inr (c.in-Ok.line, c.in-Ok.ensures, subst (λ texts. Spares (map string_bytes texts) c.args.input.now c.in_memory.new.input) c.as_slice-inputs.ensures.value c.in_memory.ensures.spares)

pub returns-clause-spares : goal.returns-clause-spares
returns-clause-spares g c = inr (c.in-Ok.line, c.in-Ok.ensures, subst (λ texts. Spares (map string_bytes texts) c.args.input.now c.in_host.new.input) c.as_slice-inputs.ensures.value c.in_host.ensures.spares)
