use Rattle.std.proofs.Common.{refl}
use Rattle.character_sets.specs.declared.set.CharacterSet.TheVariants.{CodePage437, CodePage850, Macintosh, Windows1252}
use Rattle.character_sets.proofs.Staying.{stay}
use Rattle.character_sets.proofs.laws.lines_of_a_code_page_stay.Goals as goal

pub returns : goal.returns
returns c = record {
  windows = stay Windows1252 (λ value after. refl);
  page_437 = stay CodePage437 (λ value after. refl);
  page_850 = stay CodePage850 (λ value after. refl);
  macintosh = stay Macintosh (λ value after. refl);
}
