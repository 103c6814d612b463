-- Clap's model covers the program's command line.
use Rattle.std.proofs.Common.{◌≡◌, ap, true}
use Rattle.clap.specs.Words.{App, is_simple, is_simple_and_free}
use Rattle.clap.proofs.OnLiterals.{clap_on_literals}
use Rattle.cborc_words.specs.Cli.{IsGrammar}

-- it is simple in the model
pub simple : (app : App) → IsGrammar app → is_simple app ≡ true
unfolding clap_on_literals
simple app g = ap is_simple g.is

-- no argument has a rule about another
pub free : (app : App) → IsGrammar app → is_simple_and_free app ≡ true
unfolding clap_on_literals
free app g = ap is_simple_and_free g.is
