use Rattle.std.proofs.Common.{sym, subst, arith, pos, FitsSigned, w64, to_z-of_z, rules}
use Rattle.ft_opening.proofs.Common.{IsPlain, IsSound, understood, state}
use Rattle.ft_store.proofs.{shown_open}
use Rattle.ft_opening.proofs.FoundLemmas.{only_one, not_one}
use Rattle.ft_opening.proofs.ExamineLemmas.{version_blamed, version_text, version_plain, version_seen}
use Rattle.ft_opening.proofs.ChainLemmas.{reads_on}
use Rattle.ft_opening.proofs.examine.version.Goals as goal

pub select-requires : goal.select-requires
select-requires g c = record { settled = c.requires.settled; shown = λ clean is_open. subst (λ s. IsPlain (understood s version_text)) (sym (c.requires.shown clean is_open)) (version_plain c.args.layout) }

pub returns-then-len-ne1-clause-found : goal.returns-then-len-ne1-clause-found
returns-then-len-ne1-clause-found g c = record {
  rows = λ clean.
      let old = state g.S.Store c.args.conn.now in
      let new = state g.S.Store c.select.new.conn in
      let h = c.in_ok-found.ensures.given.rows clean in
      let schema = c.requires.shown (omega (arith, c.select.ensures.given.read.survives.clean)) (shown_open _ _ old new _ h.1) in
      not_one c.in_ok-found.found.items h.0 (old.now.trees 0) (h.2 (pos 0)) (version_seen c.args.layout old new schema h.0 h.1) (search rules);
  read = reads_on g.S.Store _ _ _ _ c.in_ok-found.ensures.given.read tt;
}

pub returns-clause-found : goal.returns-clause-found
returns-clause-found g c = record {
  rows = λ clean.
      let old = state g.S.Store c.args.conn.now in
      let new = state g.S.Store c.select.new.conn in
      let h = c.in_ok-found.ensures.given.rows clean in
      let schema = c.requires.shown (omega (arith, c.select.ensures.given.read.survives.clean)) (shown_open _ _ old new _ h.1) in
      let fits : FitsSigned w64 c.index.result.now = search rules in
      rw (to_z-of_z fits) (only_one c.in_ok-found.found.items h.0 (old.now.trees 0) c.index.result.now (h.2 (pos 0)) (version_seen c.args.layout old new schema h.0 h.1) (search rules) (search rules));
  read = reads_on g.S.Store _ _ _ _ c.in_ok-found.ensures.given.read tt;
}

pub returns-in_err-found-clause-refused : goal.returns-in_err-found-clause-refused
returns-in_err-found-clause-refused g c = λ clean is.
    let old = state g.S.Store c.args.conn.now in
    let new = state g.S.Store c.select.new.conn in
    version_blamed c.args.layout old new
    (λ is_open. let has = c.requires.shown (omega (arith, c.select.ensures.given.read.survives.clean, clean)) is_open in (has, subst (λ s. IsSound s old.now.trees) has (c.schema-schema.ensures.live is_open).0))
    (c.select.ensures.refused clean (search rules))
