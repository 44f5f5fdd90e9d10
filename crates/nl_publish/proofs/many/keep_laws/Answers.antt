use Rattle.nl_publish.proofs.many.keep_laws.Goals as goal

pub returns : goal.returns
returns g c = record {
  known_with = g.met.P.FileReader.known_with;
  known_taken = g.met.P.FileReader.known_taken;
  known_left = g.met.P.FileReader.known_left;
  with_more = g.met.P.FileReader.with_more;
  same_known = g.met.P.FileReader.same_known;
  joined_again = g.met.P.FileReader.joined_again;
}
