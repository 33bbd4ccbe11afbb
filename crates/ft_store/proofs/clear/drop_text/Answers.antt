use Rattle.std.proofs.Common.{◌≡◌, refl, arith}
use Rattle.ft_store.proofs.Common.{understood, everything}
use Rattle.ft_store.specs.Tables.{cell_table, posting_table, sizes_table, noted_table, skip_table}
use Rattle.ft_store.proofs.clear.drop_text.Goals as goal

pub returns-in-3 : goal.returns-in-3
unfolding understood everything
returns-in-3 c = rw c.in-3.is (λ low below. record {
  table = cell_table 5;
  command = refl;
  plain = (refl, refl);
  whole = refl;
  found = refl;
  uncounted = refl;
  alone = λ keys. refl;
  bare = (refl, (refl, (refl, (refl, tt))));
  left_bare = (refl, (refl, (refl, tt)));
  next = refl;
})

pub returns-in-4 : goal.returns-in-4
unfolding understood everything
returns-in-4 c = rw c.in-4.is (λ low below. record {
  table = posting_table 7;
  command = refl;
  plain = (refl, refl);
  whole = refl;
  found = refl;
  uncounted = refl;
  alone = λ keys. refl;
  bare = (refl, (refl, (refl, (refl, (refl, tt)))));
  left_bare = (refl, (refl, (refl, (refl, tt))));
  next = refl;
})

pub returns-in-5 : goal.returns-in-5
unfolding understood everything
returns-in-5 c = rw c.in-5.is (λ low below. record {
  table = sizes_table 9;
  command = refl;
  plain = (refl, refl);
  whole = refl;
  found = refl;
  uncounted = refl;
  alone = λ keys. refl;
  bare = (refl, (refl, (refl, (refl, (refl, (refl, tt))))));
  left_bare = (refl, (refl, (refl, (refl, (refl, tt)))));
  next = refl;
})

pub returns-in-6 : goal.returns-in-6
unfolding understood everything
returns-in-6 c = rw c.in-6.is (λ low below. record {
  table = noted_table 11;
  command = refl;
  plain = (refl, refl);
  whole = refl;
  found = refl;
  uncounted = refl;
  alone = λ keys. refl;
  bare = (refl, (refl, (refl, (refl, (refl, (refl, (refl, tt)))))));
  left_bare = (refl, (refl, (refl, (refl, (refl, (refl, tt))))));
  next = refl;
})

pub returns-in_default : goal.returns-in_default
unfolding understood everything
returns-in_default c = λ low below.
    let is : c.args.at ≡ 7 = omega (arith, low, c.in_default, below) in
    rw is (record {
      table = skip_table 13;
      command = refl;
      plain = (refl, refl);
      whole = refl;
      found = refl;
      uncounted = refl;
      alone = λ keys. refl;
      bare = (refl, (refl, (refl, (refl, (refl, (refl, (refl, (refl, tt))))))));
      left_bare = (refl, (refl, (refl, (refl, (refl, (refl, (refl, tt)))))));
      next = refl;
    })
