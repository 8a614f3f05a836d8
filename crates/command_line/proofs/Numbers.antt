-- The number of a word, by what the library parses.
use Rattle.std.proofs.Common.{
  ◌≡◌,
  ◌<◌,
  ◌≤◌,
  ◌^◌,
  ◌∙◌,
  ℕ,
  suc,
  Bool,
  true,
  false,
  Result,
  Ok,
  Err,
  arith,
  refl,
  ap,
  sym,
  subst,
}
use Rattle.std.specs.Result.{OkIff}
use Rattle.std.specs.Prelude.{if◌then◌else◌}
use Rattle.std.specs.Str.Parse.{IsNumeral, ParsesUnsigned, digits_value, without_leading_plus}
use Rattle.clap.specs.Words.{Text}
use Rattle.clap.specs.ValueTests.{is_unsigned_in}
use Rattle.clap.specs.declared.builder.value_parser.ValueParser.TheVariants as vp
use Rattle.clap.proofs.ValueTestLemmas.{Accepts-accepts, accepts-Accepts}
use Rattle.command_line.specs.Meanings.{number_up_to}

refused : (b : Bool) (v : ℕ) → (b ≡ true → ⊥) → 0 ≡ (if b then v else 0)
refused true v none = absurd (none refl)
refused false v none = refl

-- a number of so many bits is one up to `most`
module _ {E : Type 0} (bits most : ℕ) (last : 2 ^ bits ≡ suc most) (small : most < 2 ^ 64) (word : Text)
    (r : Result ℕ E) (h : ParsesUnsigned bits 10 word r) where
  pub number_parsed : (n : ℕ) → r ≡ Ok n → n ≡ number_up_to most word
  number_parsed n is =
      let ds = without_leading_plus word in
      let v = digits_value 10 ds in
      let k = subst (λ x. OkIff x (IsNumeral 10 ds × (v < 2 ^ bits)) v) is h in
      let fitting : v < suc most = subst (λ b. v < b) last k.0.1 in
      let fits = Accepts-accepts false (vp.Unsigned 0 most) word (k.0.0, omega arith, omega arith, omega arith) in
      k.1 ∙ sym (ap (λ (b : Bool). if b then v else 0) fits)

  pub number_unparsed : (e : E) → r ≡ Err e → 0 ≡ number_up_to most word
  number_unparsed e is =
      let ds = without_leading_plus word in
      let v = digits_value 10 ds in
      let k = subst (λ x. OkIff x (IsNumeral 10 ds × (v < 2 ^ bits)) v) is h in
      refused (is_unsigned_in 0 most word) v
      (λ fits. let a = accepts-Accepts false (vp.Unsigned 0 most) word fits in let most_is : v ≤ most = a.3 in
      let under : v < suc most = omega arith in
      k (a.0, subst (λ b. v < b) (sym last) under))
