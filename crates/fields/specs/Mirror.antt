-- The mirror of a kind: twist and untwist exchanged, the number moved across 128, all else the same.
use Rattle.std.specs.Prelude.{ℕ, ◌+◌, ◌-◌, cond, nat_lt}
use Rattle.fields.specs.Meaning.{Meaning}

abbrev pub across : ℕ → ℕ
across n = cond (nat_lt n 128) (n + 128) (n - 128)

abbrev pub mirrored : Meaning → Meaning
mirrored m = record {
  number = across m.number;
  size = m.size;
  sum = m.sum;
  opposite = m.opposite;
  product = m.product;
  inverse = m.inverse;
  twist = m.untwist;
  untwist = m.twist;
  width = m.width;
  basis = m.basis;
  digits = m.digits;
}
