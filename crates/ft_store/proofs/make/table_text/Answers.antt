use Rattle.std.proofs.Common.{refl, arith}
use Rattle.std.proofs.lemmas.Str.{IsUtf8-from_is_utf8}
use Rattle.ft_store.specs.Tables.{meta_table, tab_table, col_table, cell_table, posting_table, sizes_table, noted_table}
use Rattle.ft_store.proofs.MakeLemmas.{tests_compute, next_last}
use Rattle.ft_store.proofs.make.table_text.Goals as goal

pub returns-in-0 : goal.returns-in-0
unfolding tests_compute
returns-in-0 c = rw c.in-0.is (λ below. record {
  table = meta_table 0;
  makes = record { command = refl; plain = (refl, refl); whole = refl; defined = refl; uncounted = refl };
  allowed = record {
    whole = refl;
    utf8 = (IsUtf8-from_is_utf8 _ refl, IsUtf8-from_is_utf8 _ refl);
    free = refl;
    indexes = tt;
    unreserved = refl;
    formed = refl;
    fits = refl;
    room = omega arith;
    reals = omega arith;
    key_reals = tt;
    short = omega arith;
  };
  next = refl;
})

pub returns-in-1 : goal.returns-in-1
unfolding tests_compute
returns-in-1 c = rw c.in-1.is (λ below. record {
  table = tab_table 0;
  makes = record { command = refl; plain = (refl, refl); whole = refl; defined = refl; uncounted = refl };
  allowed = record {
    whole = refl;
    utf8 = (IsUtf8-from_is_utf8 _ refl, IsUtf8-from_is_utf8 _ refl);
    free = refl;
    indexes = (refl, tt);
    unreserved = refl;
    formed = refl;
    fits = refl;
    room = omega arith;
    reals = omega arith;
    key_reals = (omega arith, tt);
    short = omega arith;
  };
  next = refl;
})

pub returns-in-2 : goal.returns-in-2
unfolding tests_compute
returns-in-2 c = rw c.in-2.is (λ below. record {
  table = col_table 0;
  makes = record { command = refl; plain = (refl, refl); whole = refl; defined = refl; uncounted = refl };
  allowed = record {
    whole = refl;
    utf8 = (IsUtf8-from_is_utf8 _ refl, IsUtf8-from_is_utf8 _ refl);
    free = refl;
    indexes = (refl, tt);
    unreserved = refl;
    formed = refl;
    fits = refl;
    room = omega arith;
    reals = omega arith;
    key_reals = (omega arith, tt);
    short = omega arith;
  };
  next = refl;
})

pub returns-in-3 : goal.returns-in-3
unfolding tests_compute
returns-in-3 c = rw c.in-3.is (λ below. record {
  table = cell_table 0;
  makes = record { command = refl; plain = (refl, refl); whole = refl; defined = refl; uncounted = refl };
  allowed = record {
    whole = refl;
    utf8 = (IsUtf8-from_is_utf8 _ refl, IsUtf8-from_is_utf8 _ refl);
    free = refl;
    indexes = (refl, tt);
    unreserved = refl;
    formed = refl;
    fits = refl;
    room = omega arith;
    reals = omega arith;
    key_reals = (omega arith, tt);
    short = omega arith;
  };
  next = refl;
})

pub returns-in-4 : goal.returns-in-4
unfolding tests_compute
returns-in-4 c = rw c.in-4.is (λ below. record {
  table = posting_table 0;
  makes = record { command = refl; plain = (refl, refl); whole = refl; defined = refl; uncounted = refl };
  allowed = record {
    whole = refl;
    utf8 = (IsUtf8-from_is_utf8 _ refl, IsUtf8-from_is_utf8 _ refl);
    free = refl;
    indexes = (refl, tt);
    unreserved = refl;
    formed = refl;
    fits = refl;
    room = omega arith;
    reals = omega arith;
    key_reals = (omega arith, tt);
    short = omega arith;
  };
  next = refl;
})

pub returns-in-5 : goal.returns-in-5
unfolding tests_compute
returns-in-5 c = rw c.in-5.is (λ below. record {
  table = sizes_table 0;
  makes = record { command = refl; plain = (refl, refl); whole = refl; defined = refl; uncounted = refl };
  allowed = record {
    whole = refl;
    utf8 = (IsUtf8-from_is_utf8 _ refl, IsUtf8-from_is_utf8 _ refl);
    free = refl;
    indexes = (refl, tt);
    unreserved = refl;
    formed = refl;
    fits = refl;
    room = omega arith;
    reals = omega arith;
    key_reals = (omega arith, tt);
    short = omega arith;
  };
  next = refl;
})

pub returns-in-6 : goal.returns-in-6
unfolding tests_compute
returns-in-6 c = rw c.in-6.is (λ below. record {
  table = noted_table 0;
  makes = record { command = refl; plain = (refl, refl); whole = refl; defined = refl; uncounted = refl };
  allowed = record {
    whole = refl;
    utf8 = (IsUtf8-from_is_utf8 _ refl, IsUtf8-from_is_utf8 _ refl);
    free = refl;
    indexes = (refl, tt);
    unreserved = refl;
    formed = refl;
    fits = refl;
    room = omega arith;
    reals = omega arith;
    key_reals = (omega arith, tt);
    short = omega arith;
  };
  next = refl;
})

pub returns-in_default : goal.returns-in_default
returns-in_default c = λ below. next_last c.args.at (omega (arith, c.in_default)) below
