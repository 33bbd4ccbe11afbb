-- The names that most proofs cite, passed on from one place. Declares nothing.
pub use Rattle.std.proofs.lemmas.Bool.{eqb-true, eq-eqb, false_from_ne_true, and_parts, and_from, or_cases, ltb-true, ltb-false, leb-true, eqb-false}
pub use Rattle.std.proofs.lemmas.Bool.Decides.{nat_tests, Decides-int_eq}
pub use Rattle.std.proofs.lemmas.List.{drop_more, take_more, map-append, drop_all}
pub use Rattle.std.specs.List.{AllByRecursion, flat_map, prefix_len}
pub use Rattle.std.specs.Option.{option_and_then}
pub use Rattle.ft_rows.specs.declared.terms.Posting.{Posting}
pub use Rattle.ft_rows.specs.Packed.{Spot, origin, numbers_in, unpacked, CanPack, is_spot, is_after, rise_after, leb128_within, leb128, going_on, numbers_after, spots_after, are_spots, packed, PackedIsRead, PackedIsExact, OnlyPackedIsRead}
pub use Rattle.ft_rows.specs.Shown.{shown_list}
pub use Rattle.ft_rows.specs.Terms.{spot_of, joined_posting, lists_of_postings, AreFirstList, IsSplit}
pub use Rattle.ft_rows.specs.Unpacking.{spot_from, passes, checked, read_after, BeginsWithSpot, BeginsWith, HasNoNumber}
